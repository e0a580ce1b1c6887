use mathlib.Core.Path.{sym}
use Rattle.refusal.proofs.Laws.{or_first, passed_on}
use Rattle.image.specs.Image.{held_refusal_in}
use Rattle.image.proofs.Laws.{number_ne, laid_out}
use Rattle.image.proofs.check_ordered.Goals as goal

pub check_content-requires : goal.check_content-requires
check_content-requires c = (laid_out _ _ (sym c.in_ok-check_layout.ensures)).long

pub returns-in_err-check_layout : goal.returns-in_err-check_layout
unfolding held_refusal_in
returns-in_err-check_layout c =
    rw (passed_on _ _ c.from_residual.ensures, ← c.in_err-check_layout.ensures) (or_first _ _ (number_ne _))

pub returns : goal.returns
unfolding held_refusal_in
returns c = rw (← c.in_ok-check_layout.ensures) c.check_content.ensures

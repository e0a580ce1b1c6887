use mathlib.Core.Path.{◌∙◌}
use Rattle.refusal.proofs.Laws.{passed_on}
use Rattle.image.specs.Image.{layout_refusal}
use Rattle.image.proofs.check_layout.Goals as goal

pub returns-in_err-demand : goal.returns-in_err-demand
unfolding layout_refusal
returns-in_err-demand c =
    let f = c.in_err-demand.ensures.first in
    rw (passed_on _ _ c.from_residual.ensures, f.1, ← c.get-edition.ensures, f.0)

pub returns : goal.returns
unfolding layout_refusal
returns c =
    c.demand-2.ensures.answer
    ∙ rw (
      ← c.get-edition.ensures,
      c.in_ok-demand.ensures.first,
      c.get-long.ensures,
      c.get-entry.ensures,
      c.get-offset.ensures,
      c.get-used.ensures,
    )

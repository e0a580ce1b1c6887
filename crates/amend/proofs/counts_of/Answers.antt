use mathlib.Core.Path.{sym, refl}
use Rattle.refusal.proofs.Laws.{passed_on}
use Rattle.amend.specs.Amend.{refused_sheet}
use Rattle.amend.proofs.Laws.{counted_whole, counted_refused}
use Rattle.amend.proofs.counts_of.Goals as goal

pub returns-in_err-trace : goal.returns-in_err-trace
returns-in_err-trace c =
    rw (passed_on c.from_residual.result (refused_sheet c.in_err-trace.field-0.0) c.from_residual.ensures) (counted_refused c.args.bytes.now _ _ (sym c.in_err-trace.ensures.value) refl)

pub returns : goal.returns
returns c =
    counted_whole _ _ _ (sym c.in_ok-trace.ensures.value) (rw c.in_ok-trace.ensures.same at c.counts.ensures)

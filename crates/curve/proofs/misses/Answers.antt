use mathlib.Core.Path.{sym}
use Rattle.refusal.proofs.Laws.{passed_on}
use Rattle.curve.proofs.Called.{refusal_first, curve_refused}
use Rattle.curve.proofs.misses.Goals as goal

pub returns-in_err-trace : goal.returns-in_err-trace
returns-in_err-trace c =
    let r = refusal_first _ 128 _ _ (sym c.in_err-trace.ensures.value) in
    rw (passed_on _ _ c.from_residual.ensures) (curve_refused _ _ _ r.0 r.1)

pub returns : goal.returns
returns c = rw c.in_ok-trace.ensures.same at c.accepted_misses.ensures

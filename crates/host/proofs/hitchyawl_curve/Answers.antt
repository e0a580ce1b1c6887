use mathlib.Core.Path.{sym}
use Rattle.curve.proofs.Called.{refusal_first}
use Rattle.host.proofs.Laws.{curve_refused}
use Rattle.host.proofs.hitchyawl_curve.Goals as goal

pub returns-in-Ok : goal.returns-in-Ok
returns-in-Ok c = rw c.answer_of.ensures (rw c.in-Ok.ensures.same at c.curve_accepted.ensures)

pub returns-in-Err : goal.returns-in-Err
returns-in-Err c =
    let r = refusal_first _ _ _ _ (sym c.in-Err.ensures.value) in
    rw c.from.ensures (curve_refused _ _ _ r.0 r.1)

use mathlib.Core.Path.{refl}
use native.Mathlib.Omega.{arith}
use Rattle.std.proofs.lemmas.Result.{err_from_is_err_and}
use Rattle.refusal.proofs.Laws.{number_some}
use Rattle.replay.proofs.Calling.{counts_refused, counts_done}
use Rattle.replay.proofs.counts.Goals as goal

pub returns-in_err-accepted : goal.returns-in_err-accepted
returns-in_err-accepted c =
    let p = err_from_is_err_and c.from_residual.result c.from_residual.ensures.1 in
    let some = number_some c.in_err-accepted.field-0.0 in
    rw (p.1, p.2) (counts_refused _ _ _ _ _ c.in_err-accepted.ensures.err (λ e. omega arith) refl)

pub count-requires : goal.count-requires
count-requires c = c.in_ok-accepted.ensures.ok.1

pub returns : goal.returns
returns c = counts_done _ _ _ _ c.in_ok-accepted.ensures.ok.2 (rw c.in_ok-accepted.ensures.ok.0 at c.count.ensures)

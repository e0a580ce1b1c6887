use mathlib.Core.Path.{refl, sym, ◌∙◌}
use native.Mathlib.Omega.{arith}
use Rattle.std.proofs.lemmas.Result.{err_from_is_err_and}
use Rattle.refusal.proofs.Laws.{number_some}
use Rattle.replay.proofs.Calling.{replay_first, replay_roomless, replay_fits, replay_refused, replay_done}
use Rattle.replay.proofs.replay.Goals as goal

pub returns-in_err-trace : goal.returns-in_err-trace
returns-in_err-trace c =
    let a = c.args in
    let p = err_from_is_err_and c.from_residual.result c.from_residual.ensures.1 in
    let some = number_some c.in_err-trace.field-0.0 in
    rw (p.1, p.2) (replay_refused _ _ _ _ _ _ _ (replay_first a.pool.now a.tally.now a.bytes.now a.rows.now a.written.now _ c.in_err-trace.ensures.err (λ e. omega arith)) (λ e. omega arith) refl)

pub returns-in_err-demand : goal.returns-in_err-demand
returns-in_err-demand c =
    let a = c.args in
    let p = err_from_is_err_and c.from_residual-in_err-demand.result c.from_residual-in_err-demand.ensures.1 in
    let e = c.in_err-demand.ensures.first in
    rw (p.1, p.2, e.1) (replay_refused _ _ _ _ _ _ _ (replay_roomless a.pool.now a.tally.now a.bytes.now a.rows.now a.written.now c.in_ok-trace.ensures.ok.2 (sym (rw c.in_ok-trace.ensures.ok.0 at c.has_room-roomy.ensures) ∙ e.0)) (λ e. omega arith) refl)

pub run-requires : goal.run-requires
run-requires c = (c.in_ok-trace.ensures.ok.1, sym c.has_room-roomy.ensures ∙ c.in_ok-demand.ensures.first)

pub returns : goal.returns
returns c =
    let a = c.args in
    replay_done _ _ _ _ _ _ _ _ (replay_fits a.pool.now a.tally.now a.bytes.now a.rows.now a.written.now c.in_ok-trace.ensures.ok.2 (sym (rw c.in_ok-trace.ensures.ok.0 at c.has_room-roomy.ensures) ∙ c.in_ok-demand.ensures.first)) (rw c.in_ok-trace.ensures.ok.0 at c.run.ensures)

use borrow.Author.Rules.{rules}
use mathlib.Core.Path.{refl, sym, subst}
use native.Mathlib.Omega.{arith}
use lib.ListN.{length}
use Rattle.std.proofs.lemmas.Result.{err_from_is_err_and}
use Rattle.refusal.proofs.Laws.{number_some}
use Rattle.pool.specs.declared.Pool.{Pool}
use Rattle.pool.proofs.Sizes.{Sized}
use Rattle.effect.specs.Record.{record_of}
use Rattle.effect.specs.ForCode.{Plays}
use Rattle.replay.proofs.Counting.{sized_on}
use Rattle.replay.proofs.Stepping.{step_plays, step_countable, step_refused, step_done}
use Rattle.replay.proofs.step.Goals as goal

pub returns-in_err-check_step : goal.returns-in_err-check_step
returns-in_err-check_step c =
    let p = err_from_is_err_and c.from_residual.result c.from_residual.ensures.1 in
    let some = number_some c.in_err-check_step.field-0.0 in
    rw (p.1, p.2) (step_refused _ _ _ _ _ _ _ c.in_err-check_step.ensures (λ e. omega arith) refl)

pub play-row-requires : goal.play-row-requires
play-row-requires c =
    let z = subst Sized c.bench_of-bench.ensures (sized_on _ (search rules) (search rules)) in
    subst (λ (p : Pool). Plays p (record_of p c.args.page c.args.kind) 0 (length c.args.written.now)) (sym c.bench_of-bench.ensures)
    (step_plays _ _ _ _ _ _ z c.in_ok-check_step.ensures refl)

pub raise-requires : goal.raise-requires
raise-requires c =
    let z = subst Sized c.bench_of-bench.ensures (sized_on _ (search rules) (search rules)) in
    step_countable c.args.pool.now c.args.tally.now c.args.page c.args.kind _ _ _ _ z c.in_ok-check_step.ensures refl c.bench_of-bench.ensures c.play-row.ensures.effect

pub returns : goal.returns
returns c = step_done _ _ _ _ _ _ 0 _ _ _ _ _ c.in_ok-check_step.ensures refl c.bench_of-bench.ensures c.play-row.ensures c.pool_of.ensures c.raise.ensures

use mathlib.Core.Path.{subst}
use native.Mathlib.Omega.{arith}
use Rattle.trace.proofs.Accept.{counts_are}
use Rattle.pool.proofs.Sizes.{Sized}
use Rattle.replay.proofs.Running.{counting_none, counting_more}
use Rattle.replay.proofs.Counting.{ready_by, sized_on, count_plays, countable, played, counted_all}
use borrow.Author.Rules.{rules}
use Rattle.replay.proofs.count.Goals as goal

pub loop-i-init : goal.loop-i-init
loop-i-init c = (search rules, counting_none _ _ _ _ c.bench_of-bench.ensures)

pub play-row-requires : goal.play-row-requires
play-row-requires c =
    let z = subst Sized c.bench_of-bench.ensures (sized_on _ (search rules) (search rules)) in
    rw c.loop-i.invariant.0 (count_plays c.args.pool.now c.args.tally.now c.args.trace.now.bytes.now c.args.trace.now.summary z (ready_by _ _ _ _ c.requires c.args.trace.now.accepted) _ _ _ c.loop-i-test.true c.loop-i.invariant.1 _ c.record_at-record.ensures)

pub raised-t-requires : goal.raised-t-requires
raised-t-requires c =
    let z = subst Sized c.bench_of-bench.ensures (sized_on _ (search rules) (search rules)) in
    countable c.args.pool.now c.args.tally.now c.args.trace.now.bytes.now c.args.trace.now.summary z (ready_by _ _ _ _ c.requires c.args.trace.now.accepted) _ _ _ c.loop-i-test.true c.loop-i.invariant.1 _ c.record_at-record.ensures _ c.play-row.ensures.effect

pub loop-i-preserved : goal.loop-i-preserved
loop-i-preserved c =
    let z = subst Sized c.bench_of-bench.ensures (sized_on _ (search rules) (search rules)) in
    let same = played c.args.pool.now c.args.tally.now c.args.trace.now.bytes.now c.args.trace.now.summary z (ready_by _ _ _ _ c.requires c.args.trace.now.accepted) _ _ _ c.loop-i-test.true c.loop-i.invariant.1 _ c.record_at-record.ensures in (
      search rules,
      counting_more _ _ _ _ _ _ _ _ _ c.loop-i.invariant.1 same c.play-row.ensures.effect c.raised-t.ensures,
    )

pub returns : goal.returns
returns c =
    let n = (counts_are _ _ c.args.trace.now.accepted).0 in
    counted_all c.args.pool.now _ _ _ _ _ _ c.loop-i.invariant.1 c.pool_of.ensures (omega arith)

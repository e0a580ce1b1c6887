use Prim.Native.Nat.{◌*◌}
use mathlib.Core.Path.{subst, ap}
use native.Mathlib.Omega.{arith}
use lib.ListN.{length}
use Rattle.trace.proofs.Accept.{counts_are}
use Rattle.pool.proofs.Sizes.{Sized}
use Rattle.table.specs.Table.{pool_on}
use Rattle.tally.specs.Rows.{row_numbers}
use Rattle.effect.specs.ForCode.{Effect}
use Rattle.effect.specs.Record.{record_of}
use Rattle.replay.proofs.Running.{stored_length, counting_none, listing_none, counting_more, listing_more, listing_all}
use Rattle.replay.proofs.Counting.{ready_by, sized_on, count_plays, countable, played, row_batch, run_room, run_few, row_room, counted_all}
use borrow.Author.Rules.{rules}
use Rattle.replay.proofs.run.Goals as goal

pub loop-i-init : goal.loop-i-init
loop-i-init c = (search rules, search rules, counting_none _ _ _ _ c.bench_of-bench.ensures, listing_none _ _ _ _ _)

pub play-row-requires : goal.play-row-requires
play-row-requires c =
    let z = subst Sized c.bench_of-bench.ensures (sized_on _ (search rules) (search rules)) in
    let g = c.loop-i.invariant in
    let few = count_plays c.args.pool.now c.args.tally.now c.args.trace.now.bytes.now c.args.trace.now.summary z (ready_by _ _ _ _ c.requires.0 c.args.trace.now.accepted) _ _ _ c.loop-i-test.true g.2 _ c.record_at-record.ensures in
    record {
      sound = few.sound;
      access = few.access;
      write = few.write;
      room = rw g.1
          (run_room c.args.pool.now c.args.tally.now c.args.trace.now.bytes.now c.args.trace.now.summary z (ready_by _ _ _ _ c.requires.0 c.args.trace.now.accepted) _ _ _ c.loop-i-test.true g.2 _ c.record_at-record.ensures
          (length c.args.rows.now) (length c.args.list.now) c.requires.1 _ _ _ _ _ g.3);
    }

pub put_row-requires : goal.put_row-requires
put_row-requires c =
    let z = subst Sized c.bench_of-bench.ensures (sized_on _ (search rules) (search rules)) in
    let g = c.loop-i.invariant in
    rw g.0
    (row_room c.args.pool.now c.args.tally.now c.args.trace.now.bytes.now c.args.trace.now.summary z (ready_by _ _ _ _ c.requires.0 c.args.trace.now.accepted) _ _ _ c.loop-i-test.true g.2 _ c.record_at-record.ensures
    (length c.args.rows.now) (length c.args.list.now) c.requires.1 _ _ _ _ _ g.3)

pub raised-t-requires : goal.raised-t-requires
raised-t-requires c =
    let z = subst Sized c.bench_of-bench.ensures (sized_on _ (search rules) (search rules)) in
    countable c.args.pool.now c.args.tally.now c.args.trace.now.bytes.now c.args.trace.now.summary z (ready_by _ _ _ _ c.requires.0 c.args.trace.now.accepted) _ _ _ c.loop-i-test.true c.loop-i.invariant.2 _ c.record_at-record.ensures _ c.play-row.ensures.effect

pub overflow_add-at : goal.overflow_add-at
overflow_add-at c =
    let z = subst Sized c.bench_of-bench.ensures (sized_on _ (search rules) (search rules)) in
    let g = c.loop-i.invariant in
    let few = run_few c.args.pool.now c.args.tally.now c.args.trace.now.bytes.now c.args.trace.now.summary z (ready_by _ _ _ _ c.requires.0 c.args.trace.now.accepted) _ _ _ c.loop-i-test.true g.2 _ c.record_at-record.ensures
    (length c.args.rows.now) (length c.args.list.now) c.requires.1 _ _ _ _ _ g.3 in
    let batch = row_batch c.args.pool.now c.args.tally.now c.args.trace.now.bytes.now c.args.trace.now.summary z (ready_by _ _ _ _ c.requires.0 c.args.trace.now.accepted) _ _ _ c.loop-i-test.true g.2 _ c.record_at-record.ensures _ c.play-row.ensures.effect in
    omega arith

pub loop-i-preserved : goal.loop-i-preserved
loop-i-preserved c =
    let z = subst Sized c.bench_of-bench.ensures (sized_on _ (search rules) (search rules)) in
    let g = c.loop-i.invariant in
    let same = played c.args.pool.now c.args.tally.now c.args.trace.now.bytes.now c.args.trace.now.summary z (ready_by _ _ _ _ c.requires.0 c.args.trace.now.accepted) _ _ _ c.loop-i-test.true g.2 _ c.record_at-record.ensures in
    let batch = row_batch c.args.pool.now c.args.tally.now c.args.trace.now.bytes.now c.args.trace.now.summary z (ready_by _ _ _ _ c.requires.0 c.args.trace.now.accepted) _ _ _ c.loop-i-test.true g.2 _ c.record_at-record.ensures _ c.play-row.ensures.effect in (
      stored_length c.loop-i.rows _ (row_numbers c.play-row.result) (4 * c.loop-i.i) _ c.put_row.ensures g.0,
      stored_length c.loop-i.list _ (record_of (pool_on c.loop-i.bench) c.record_at-record.result.page c.record_at-record.result.kind).written c.loop-i.at _ c.play-row.ensures.list g.1,
      counting_more _ _ _ _ _ _ _ _ _ g.2 same c.play-row.ensures.effect c.raised-t.ensures,
      listing_more _ _ _ _ _ _ _ _ _ _ g.3 same _ _ _ _ (ap (λ (x : Effect). x.row) c.play-row.ensures.effect) batch c.put_row.ensures c.play-row.ensures.list,
    )

pub returns : goal.returns
returns c =
    let n = (counts_are _ _ c.args.trace.now.accepted).0 in
    let lists = listing_all c.args.pool.now _ _ _ _ _ _ _ _ c.loop-i.invariant.3 (omega arith) in
    record {
      answers = counted_all c.args.pool.now _ _ _ _ _ _ c.loop-i.invariant.2 c.pool_of.ensures (omega arith);
      rows_hold = lists.0;
      written_hold = lists.1;
    }

use Rattle.table.specs.Table.{pool_on, frames_in}
use mathlib.Core.Path.{refl, ap}
use Rattle.table.specs.declared.Bench.{Bench}
use native.Mathlib.Omega.{arith}
use Rattle.batch.proofs.Whole.{known_dirty, clean_written, dirty_room, dirty_written}
use Rattle.batch.proofs.Written.{wrote_length}
use Rattle.batch.proofs.write.Goals as goal

pub returns-then-not-fr : goal.returns-then-not-fr
returns-then-not-fr c = record { wrote = clean_written (pool_on c.args.bench.now) _ _ _ _ _ refl c.frame_at-fr.ensures c.if-not-fr.true; rest = refl }

pub write_others-others-requires : goal.write_others-others-requires
write_others-others-requires c = (c.requires.sound, (dirty_room (pool_on c.args.bench.now) c.args.v c.args.at _ (known_dirty (frames_in c.args.bench.now.table) c.args.v _ c.frame_at-fr.ensures c.if-not-fr.false) c.requires.room))

pub write_one-requires : goal.write_one-requires
write_one-requires c =
    let h = (dirty_room (pool_on c.args.bench.now) c.args.v c.args.at _ (known_dirty (frames_in c.args.bench.now.table) c.args.v _ c.frame_at-fr.ensures c.if-not-fr.false) c.requires.room) in
    let l = wrote_length _ _ _ _ _ _ _ c.write_others-others.ensures.wrote in
    (c.requires.frame, omega arith)

pub overflow_add-result : goal.overflow_add-result
overflow_add-result c = let h = (dirty_room (pool_on c.args.bench.now) c.args.v c.args.at _ (known_dirty (frames_in c.args.bench.now.table) c.args.v _ c.frame_at-fr.ensures c.if-not-fr.false) c.requires.room) in let l = wrote_length _ _ _ _ _ _ _ c.write_others-others.ensures.wrote in omega arith

pub returns : goal.returns
returns c =
    record {
      wrote = dirty_written (pool_on c.args.bench.now) _ _ _ _ _ _ _ _ (known_dirty (frames_in c.args.bench.now.table) c.args.v _ c.frame_at-fr.ensures c.if-not-fr.false)
          c.write_others-others.ensures.wrote c.write_one.ensures;
      rest = ap (λ (b : Bench). record b { table = c.write_one.new.table }) c.write_others-others.ensures.rest;
    }

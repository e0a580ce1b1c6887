use Rattle.std.proofs.Common.{refl}
use Prim.Native.Nat.{◌-◌}
use native.Mathlib.Omega.{arith}
use Rattle.settings.proofs.Laws.{ranges}
use Rattle.pool.proofs.Sound.{told}
use Rattle.table.specs.Table.{pool_on}
use Rattle.batch.proofs.Whole.{keys_hold, others_by_key, values_small, others_by_value, same_room, same_wrote, none_wrote}
use Rattle.batch.proofs.write_others.Goals as goal

pub overflow_sub-most : goal.overflow_sub-most
overflow_sub-most c =
    let batch = (ranges _ (told (pool_on c.args.bench.now) c.requires.0).settings).batch in
    omega arith

pub returns-then-most-eq0 : goal.returns-then-most-eq0
returns-then-most-eq0 c = record { wrote = none_wrote (pool_on c.args.bench.now) c.args.v _ _ _ c.if-most-eq0.true; rest = refl }

pub write_by_key-requires : goal.write_by_key-requires
write_by_key-requires c =
    let rule = c.if-bench-ne2.true in (
      (ranges _ (told (pool_on c.args.bench.now) c.requires.0).settings).frames.1,
      c.key_all.ensures.1,
      keys_hold (pool_on c.args.bench.now) (told (pool_on c.args.bench.now) c.requires.0) c.args.v _ rule c.key_all.ensures.0,
      same_room _ _ c.args.at _ (others_by_key (pool_on c.args.bench.now) (told (pool_on c.args.bench.now) c.requires.0) c.args.v _ rule c.key_all.ensures.0 (c.args.bench.now.head.settings.batch - 1)) c.requires.1,
    )

pub returns-then-bench-ne2 : goal.returns-then-bench-ne2
returns-then-bench-ne2 c =
    record {
      wrote = same_wrote _ _ _ _ _ _ _ _ (others_by_key (pool_on c.args.bench.now) (told (pool_on c.args.bench.now) c.requires.0) c.args.v _ c.if-bench-ne2.true c.key_all.ensures.0 (c.args.bench.now.head.settings.batch - 1)) c.write_by_key.ensures;
      rest = refl;
    }

pub write_by_value-requires : goal.write_by_value-requires
write_by_value-requires c = (
  (ranges _ (told (pool_on c.args.bench.now) c.requires.0).settings).frames.1,
  values_small (pool_on c.args.bench.now) (told (pool_on c.args.bench.now) c.requires.0) c.args.v _ _ c.if-bench-ne2.false c.value_all-values.ensures,
  same_room _ _ c.args.at _ (others_by_value (pool_on c.args.bench.now) (told (pool_on c.args.bench.now) c.requires.0) c.args.v _ _ c.if-bench-ne2.false c.value_all-values.ensures (c.args.bench.now.head.settings.batch - 1)) c.requires.1,
)

pub returns : goal.returns
returns c =
    record {
      wrote = same_wrote _ _ _ _ _ _ _ _ (others_by_value (pool_on c.args.bench.now) (told (pool_on c.args.bench.now) c.requires.0) c.args.v _ _ c.if-bench-ne2.false c.value_all-values.ensures (c.args.bench.now.head.settings.batch - 1)) c.write_by_value.ensures;
      rest = refl;
    }

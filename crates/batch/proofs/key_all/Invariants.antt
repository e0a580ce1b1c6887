use Rattle.std.proofs.Common.{◌≡◌, length}
use Rattle.table.specs.Table.{pool_on}
use Rattle.batch.specs.ForCode.{KeyedTo}
use Rattle.batch.proofs.key_all.Given as goal

abbrev pub invariant-loop-i : goal.invariant-loop-i
invariant-loop-i l = (length l.keys ≡ 128) × KeyedTo (pool_on l.bench) l.v l.i l.keys

use Rattle.std.proofs.Common.{◌≡◌, length}
use Rattle.table.specs.Table.{pool_on}
use Rattle.batch.specs.ForCode.{ValuedTo}
use Rattle.batch.proofs.value_all.Given as goal

abbrev pub invariant-loop-i : goal.invariant-loop-i
invariant-loop-i l = (length l.waiting ≡ 128) × (length l.values ≡ 128) × ValuedTo (pool_on l.bench) l.v l.i l.waiting l.values

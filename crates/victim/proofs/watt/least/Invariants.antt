use Rattle.table.specs.Table.{frames_in, pool_on}
use Rattle.victim.specs.Choice.{unpinned}
use Rattle.victim.specs.Watt.{value_at}
use Rattle.victim.proofs.watt.Turns.{Best}
use Rattle.victim.proofs.watt.least.Given as goal

abbrev pub invariant-loop-i : goal.invariant-loop-i
invariant-loop-i l = Best (value_at (pool_on l.bench)) (unpinned (frames_in l.bench.table)) l.i l.best l.low

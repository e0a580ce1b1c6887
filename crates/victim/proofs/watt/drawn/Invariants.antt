use Rattle.table.specs.Table.{frames_in, pool_on}
use Rattle.victim.specs.Choice.{unpinned}
use Rattle.victim.specs.Watt.{value_at}
use Rattle.victim.proofs.watt.Turns.{Drawing}
use Rattle.victim.proofs.watt.drawn.Given as goal

abbrev pub invariant-loop-n : goal.invariant-loop-n
invariant-loop-n l =
    Drawing (value_at (pool_on l.bench)) (unpinned (frames_in l.bench.table)) l.bench.head.sampler l.bench.head.settings.frames l.s l.best l.low l._n

use Rattle.std.proofs.Common.{◌≡◌}
use Rattle.table.specs.Table.{frames_in, pool_on}
use Rattle.victim.proofs.clock.Falling.{to_go}
use Rattle.victim.proofs.clock.Sweeping.{home, Sweeping}
use Rattle.victim.proofs.clock.sweep.Given as goal

abbrev pub invariant-loop-table : goal.invariant-loop-table
invariant-loop-table l = Sweeping (pool_on l.fn.bench) (frames_in l.table) l.at × (l.f ≡ l.fn.bench.head.settings.frames)

abbrev pub decreases-loop-table : goal.decreases-loop-table
decreases-loop-table l = to_go l.fn.bench.head.settings.frames (home (pool_on l.fn.bench)) (frames_in l.table) l.at

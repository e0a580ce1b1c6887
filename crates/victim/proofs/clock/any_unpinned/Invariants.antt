use Rattle.std.proofs.Common.{◌≡◌, None}
use Rattle.search.specs.Search.{least_below, never}
use Rattle.table.specs.Table.{frames_in}
use Rattle.victim.specs.Choice.{unpinned}
use Rattle.victim.proofs.clock.any_unpinned.Given as goal

abbrev pub invariant-loop-i : goal.invariant-loop-i
invariant-loop-i l = least_below (unpinned (frames_in l.table)) never l.i ≡ None

use Rattle.std.proofs.Common.{◌≡◌, ◌≤◌}
use Rattle.search.specs.Search.{least_below}
use Rattle.pool.specs.Pool.{frame_at}
use Rattle.table.specs.Table.{frames_in}
use Rattle.victim.specs.Choice.{unpinned}
use Rattle.search.specs.ForCode.{never_key}
use Rattle.victim.specs.Lru.{older}
use Rattle.search.proofs.ByKey.{key_of}
use Rattle.victim.proofs.lru.victim.Given as goal

abbrev pub invariant-loop-i : goal.invariant-loop-i
invariant-loop-i l = (l.low ≤ never_key) × (l.low ≡ key_of (unpinned (frames_in l.table)) (λ j. (frame_at (frames_in l.table) j).last) (least_below (unpinned (frames_in l.table)) (older (frames_in l.table)) l.i))

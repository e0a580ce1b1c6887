use Prim.Native.Nat.{◌≤◌}
use mathlib.Core.Path.{◌≡◌}
use Rattle.search.specs.Search.{is_found, least_below, never}
use Rattle.table.specs.Table.{frames_in}
use Rattle.reference.specs.Search.{has}
use Rattle.reference.proofs.resident.Given as goal

abbrev pub invariant-loop-i : goal.invariant-loop-i
invariant-loop-i l = (l.n ≤ 128) × (l.seen ≡ is_found (least_below (has (frames_in l.table) l.page) never l.i))

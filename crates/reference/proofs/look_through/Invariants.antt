use Prim.Native.Nat.{◌≤◌}
use mathlib.Core.Path.{◌≡◌}
use Rattle.search.specs.Search.{least_below, never}
use Rattle.search.specs.ForCode.{past}
use Rattle.table.specs.Table.{frames_in}
use Rattle.reference.specs.Search.{has}
use Rattle.reference.proofs.look_through.Given as goal

abbrev pub invariant-loop-i : goal.invariant-loop-i
invariant-loop-i l = (l.n ≤ 128) × (l.past ≤ l.i) × (l.past ≡ past (least_below (has (frames_in l.table) l.page) never l.i))

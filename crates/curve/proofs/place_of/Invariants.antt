use Prim.Native.Nat.{◌≤◌}
use mathlib.Core.Path.{◌≡◌}
use lib.ListN.{get_or}
use lib.Dec.{eqb}
use Rattle.search.specs.Search.{least_below, never}
use Rattle.search.specs.ForCode.{past}
use Rattle.curve.proofs.place_of.Given as goal

abbrev pub invariant-loop-i : goal.invariant-loop-i
invariant-loop-i l = (l.depth ≤ 128) × (l.sum ≤ l.i) × (l.sum ≡ past (least_below (λ j. eqb (get_or l.room j 0) l.page) never l.i))

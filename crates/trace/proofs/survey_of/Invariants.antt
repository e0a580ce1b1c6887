use mathlib.Core.Path.{◌≡◌}
use Prim.Native.Nat.{◌≤◌}
use Rattle.trace.specs.Layout.{kind_at, zero_at, up_to, known_kinds, all_zero, writes_in}
use Rattle.trace.proofs.survey_of.Given as goal

abbrev pub invariant-loop-i : goal.invariant-loop-i
invariant-loop-i l = (l.known ≡ known_kinds (up_to (kind_at l.order l.s) l.i)) × (l.zeros ≡ all_zero (up_to (zero_at l.order l.s) l.i))
    × (l.writes ≡ writes_in (up_to (kind_at l.order l.s) l.i)) × (l.writes ≤ l.i)

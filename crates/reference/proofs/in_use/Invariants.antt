use Prim.Native.Nat.{◌≤◌}
use mathlib.Core.Path.{◌≡◌}
use Rattle.table.specs.Table.{frames_in}
use Rattle.reference.specs.ForCode.{in_use}
use Rattle.reference.proofs.in_use.Given as goal

abbrev pub invariant-loop-i : goal.invariant-loop-i
invariant-loop-i l = (l.n ≤ l.i) × (l.n ≡ in_use (frames_in l.table) l.i)

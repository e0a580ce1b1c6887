use mathlib.Core.Path.{◌≡◌}
use lib.ListN.{length}
use lib.Seq.{sets}
use Rattle.curve.specs.ForCode.{left_after, leavings}
use Rattle.curve.proofs.put_curve.Given as goal

abbrev pub invariant-loop-f : goal.invariant-loop-f
invariant-loop-f l = (length l.list ≡ length l.initial.list) × (l.left ≡ left_after l.times l.n l.f) × (l.list ≡ sets l.initial.list 0 (leavings l.times l.n l.f))

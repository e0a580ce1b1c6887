use mathlib.Core.Path.{◌≡◌}
use lib.ListN.{drop}
use Rattle.scale.specs.Scale.{steps, first_enough, step_of}
use Rattle.scale.proofs.step_for.Given as goal

abbrev pub invariant-loop-i : goal.invariant-loop-i
invariant-loop-i l = first_enough l.most (drop l.i steps) ≡ step_of l.most

use mathlib.Core.Path.{◌≡◌}
use Rattle.worth.specs.Value.{worth_of}
use Rattle.worth.proofs.log_worth.Given as goal

abbrev pub invariant-loop-j : goal.invariant-loop-j
invariant-loop-j l = l.best ≡ worth_of l.fn.a l.at l.j l.epoch

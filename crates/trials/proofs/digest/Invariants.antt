use Rattle.std.proofs.Common.{◌<◌}
use Rattle.trials.proofs.digest.Given as goal

abbrev pub invariant-loop-item : goal.invariant-loop-item
invariant-loop-item g l = l.h < 4294967291

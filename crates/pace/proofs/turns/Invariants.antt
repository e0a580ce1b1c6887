use Rattle.std.proofs.Common.{length, ◌≡◌}
use Rattle.pace.proofs.turns.Given as goal

abbrev pub invariant-loop-i : goal.invariant-loop-i
invariant-loop-i l = length l.bytes ≡ length l.initial.bytes

use Rattle.std.proofs.Common.{false, get_or}
use Rattle.victim.proofs.watt.Turns.{Best}
use Rattle.batch.specs.ForCode.{held_value}
use Rattle.batch.proofs.next.Given as goal

abbrev pub invariant-loop-i : goal.invariant-loop-i
invariant-loop-i l = Best (held_value l.values) (λ j. get_or l.waiting j false) l.i l.best l.low

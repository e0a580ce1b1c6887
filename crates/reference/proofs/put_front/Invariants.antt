use mathlib.Core.Path.{◌≡◌}
use lib.ListN.{length}
use Rattle.search.specs.Search.{pick}
use Rattle.reference.specs.Logs.{put_front}
use Rattle.reference.proofs.Logs.{carried}
use Rattle.reference.proofs.put_front.Given as goal

abbrev pub invariant-loop-j : goal.invariant-loop-j
invariant-loop-j l = (length l.a ≡ length l.initial.a) × (l.a ≡ pick l.on (put_front l.initial.a l.at l.j l.epoch) l.initial.a) × (l.carry ≡ carried l.initial.a l.at l.epoch l.j)

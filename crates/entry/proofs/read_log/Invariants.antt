use mathlib.Core.Path.{◌≡◌}
use lib.ListN.{length}
use lib.Seq.{sets}
use Rattle.entry.specs.Entry.{words_at}
use Rattle.entry.proofs.read_log.Given as goal

abbrev pub invariant-loop-j : goal.invariant-loop-j
invariant-loop-j l = (length l.log ≡ length l.initial.log) × (l.log ≡ sets l.initial.log l.to (words_at l.order l.bytes l.at l.j))

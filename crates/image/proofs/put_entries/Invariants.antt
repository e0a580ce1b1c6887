use mathlib.Core.Path.{◌≡◌}
use lib.ListN.{length}
use lib.Seq.{sets}
use Rattle.entry.specs.Run.{run_of}
use Rattle.entry.specs.Entry.{entry_bytes}
use Rattle.image.specs.Layout.{image_header}
use Rattle.image.proofs.put_entries.Given as goal

abbrev pub invariant-loop-i : goal.invariant-loop-i
invariant-loop-i l = (length l.out ≡ length l.initial.out) × (l.out ≡ sets l.initial.out image_header (run_of (entry_bytes l.order l.p) l.i))

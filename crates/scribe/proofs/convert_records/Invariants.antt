use mathlib.Core.Path.{◌≡◌}
use lib.ListN.{length}
use lib.Seq.{sets}
use Rattle.trace.specs.Encode.{records_to}
use Rattle.trace.specs.Check.{trace_of}
use Rattle.scribe.proofs.convert_records.Given as goal

abbrev pub invariant-loop-i : goal.invariant-loop-i
invariant-loop-i l = (length l.out ≡ length l.initial.out) × (l.out ≡ sets l.initial.out 48 (records_to l.order (trace_of l.trace.bytes.now).pages (trace_of l.trace.bytes.now).kinds l.i))

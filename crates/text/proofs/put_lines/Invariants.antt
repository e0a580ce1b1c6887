use mathlib.Core.Path.{◌≡◌}
use Prim.Native.Nat.{◌*◌, ◌≤◌}
use lib.ListN.{length}
use lib.Seq.{sets}
use Rattle.trace.specs.Check.{trace_of}
use Rattle.text.specs.Text.{line_room, text_to}
use Rattle.text.proofs.put_lines.Given as goal

abbrev pub invariant-loop-i : goal.invariant-loop-i
invariant-loop-i l = (l.at ≤ line_room * l.i)
    × (l.at ≡ length (text_to (trace_of l.trace.bytes.now).pages (trace_of l.trace.bytes.now).kinds l.i))
    × (l.out ≡ sets l.initial.out 0 (text_to (trace_of l.trace.bytes.now).pages (trace_of l.trace.bytes.now).kinds l.i))

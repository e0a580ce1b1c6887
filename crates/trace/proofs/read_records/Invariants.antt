use mathlib.Core.Path.{◌≡◌}
use Prim.Native.Nat.{ℕ}
use lib.ListN.{length}
use lib.Seq.{sets}
use Rattle.trace.specs.Layout.{up_to, record_in}
use Rattle.trace.specs.Check.{trace_of}
use Rattle.trace.proofs.read_records.Given as goal

abbrev pub invariant-loop-i : goal.invariant-loop-i
invariant-loop-i l = (length l.pages ≡ length l.initial.pages) × (length l.kinds ≡ length l.initial.kinds)
    × (l.pages ≡ sets l.initial.pages 0 (up_to (λ (j : ℕ). (record_in (trace_of l.trace.bytes.now) j).page) l.i))
    × (l.kinds ≡ sets l.initial.kinds 0 (up_to (λ (j : ℕ). (record_in (trace_of l.trace.bytes.now) j).kind) l.i))

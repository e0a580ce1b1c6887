use mathlib.Core.Path.{◌≡◌}
use lib.ListN.{length}
use Rattle.trace.specs.Check.{trace_of}
use Rattle.curve.specs.ForCode.{Times}
use Rattle.curve.proofs.Counting.{Stack, plain_to}
use Rattle.curve.proofs.pass.Given as goal

abbrev pub invariant-loop-i : goal.invariant-loop-i
invariant-loop-i l = (length l.times ≡ 129) × Stack (trace_of l.trace.bytes.now).pages l.room l.depth l.i × (l.plain ≡ plain_to (trace_of l.trace.bytes.now).kinds l.i) × Times (trace_of l.trace.bytes.now).pages l.times l.i

use mathlib.Core.Path.{◌≡◌}
use lib.ListN.{length}
use Rattle.trace.specs.Check.{trace_of}
use Rattle.table.specs.Table.{pool_on}
use Rattle.replay.proofs.Running.{Counting}
use Rattle.replay.proofs.count.Given as goal

abbrev pub invariant-loop-i : goal.invariant-loop-i
invariant-loop-i l = (length l.scratch ≡ 16) × Counting l.fn.pool l.initial.t (trace_of l.trace.bytes.now) (pool_on l.bench) l.t l.i

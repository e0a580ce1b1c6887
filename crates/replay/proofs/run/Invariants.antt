use mathlib.Core.Path.{◌≡◌}
use lib.ListN.{length}
use Rattle.trace.specs.Check.{trace_of}
use Rattle.table.specs.Table.{pool_on}
use Rattle.replay.proofs.Running.{Counting, Listing}
use Rattle.replay.proofs.run.Given as goal

abbrev pub invariant-loop-i : goal.invariant-loop-i
invariant-loop-i l = (length l.rows ≡ length l.initial.rows) × (length l.list ≡ length l.initial.list)
    × Counting l.fn.pool l.initial.t (trace_of l.trace.bytes.now) (pool_on l.bench) l.t l.i
    × Listing l.fn.pool l.initial.t (trace_of l.trace.bytes.now) l.initial.rows l.initial.list l.rows l.list l.at l.i

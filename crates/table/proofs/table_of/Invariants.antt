use mathlib.Core.Path.{◌≡◌}
use lib.ListN.{length}
use Rattle.table.specs.Table.{table_length, frames_in}
use Rattle.table.proofs.Held.{Filled}
use Rattle.table.proofs.table_of.Given as goal

abbrev pub invariant-loop-i : goal.invariant-loop-i
invariant-loop-i l = (length l.table ≡ table_length) × Filled l.frames (frames_in l.table) l.i

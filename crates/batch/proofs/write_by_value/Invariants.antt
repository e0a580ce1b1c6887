use Prim.Native.Nat.{ℕ, ◌<◌}
use mathlib.Core.Path.{◌≡◌}
use mathlib.Core.Bool.{false}
use lib.ListN.{length, get_or}
use Rattle.batch.proofs.Batching.{Batching}
use Rattle.batch.proofs.Left.{marks, value_before, value_rest}
use Rattle.batch.proofs.write_by_value.Given as goal

abbrev pub invariant-loop-n : goal.invariant-loop-n
invariant-loop-n l = (length l.waiting ≡ 128) × Batching l.initial.table (marks l.initial.waiting) (value_before l.first.values) l.f l.at l.initial.out l.table l.out l.n
    × ((i : ℕ) → i < l.f → get_or l.waiting i false ≡ value_rest l.initial.waiting l.first.values l.f l.n i)

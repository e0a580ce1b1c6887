use Prim.Native.Nat.{ℕ, ◌<◌}
use mathlib.Core.Path.{◌≡◌}
use lib.ListN.{length, get_or}
use Rattle.search.specs.ForCode.{keyed}
use Rattle.batch.specs.ForCode.{has_key, key_rank}
use Rattle.batch.proofs.Batching.{Batching}
use Rattle.batch.proofs.Left.{key_before, key_rest}
use Rattle.batch.proofs.write_by_key.Given as goal

abbrev pub invariant-loop-n : goal.invariant-loop-n
invariant-loop-n l = (length l.keys ≡ 128) × Batching l.initial.table (has_key l.initial.keys) (key_before l.initial.keys) l.f l.at l.initial.out l.table l.out l.n
    × ((i : ℕ) → i < l.f → get_or l.keys i 0 ≡ keyed (key_rest l.initial.keys l.f l.n i) (key_rank l.initial.keys i) i)

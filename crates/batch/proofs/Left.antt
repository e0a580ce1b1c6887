-- What is left after n of the others, by keys and by values, as the loops of write_by_key and write_by_value keep it.
use Prim.Native.Nat.{ℕ, ◌≤◌, ◌<◌}
use mathlib.Core.Path.{◌≡◌}
use mathlib.Core.Bool.{Bool, true, false}
use mathlib.Core.List.{List}
use lib.ListN.{get_or}
use lib.Dec.{ltb}
use Rattle.search.specs.ForCode.{rank_limit}
use Rattle.worth.specs.declared.Fraction.{Fraction}
use Rattle.worth.specs.Value.{less_fraction}
use Rattle.batch.specs.Taken.{remaining, others_to}
use Rattle.batch.specs.ForCode.{has_key, key_rank, Keys, held_value}
use Rattle.batch.proofs.Keyed.{remaining_small}

-- by their ranks
abbrev pub key_before : List ℕ → ℕ → ℕ → Bool
key_before keys i j = ltb (key_rank keys i) (key_rank keys j)

-- those with a key that are left after n
abbrev pub key_rest : List ℕ → ℕ → ℕ → ℕ → Bool
key_rest keys f n = remaining (has_key keys) (key_before keys) f (others_to (has_key keys) (key_before keys) f n)

pub small_ranks : (keys : List ℕ) (f n : ℕ) → Keys keys f → (i : ℕ) → i < f → key_rest keys f n i ≡ true → key_rank keys i ≤ rank_limit
small_ranks keys f n h = remaining_small (has_key keys) (key_before keys) f (others_to (has_key keys) (key_before keys) f n) (key_rank keys) (λ i l. (h i l).1)

-- whether one waits
abbrev pub marks : List Bool → ℕ → Bool
marks ws i = get_or ws i false

-- by their values
abbrev pub value_before : List Fraction → ℕ → ℕ → Bool
value_before values i j = less_fraction (held_value values i) (held_value values j)

-- those that wait and are left after n
abbrev pub value_rest : List Bool → List Fraction → ℕ → ℕ → ℕ → Bool
value_rest ws values f n = remaining (marks ws) (value_before values) f (others_to (marks ws) (value_before values) f n)

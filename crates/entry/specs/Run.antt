-- Lists one after the other.
use Rattle.std.specs.Prelude.{ℕ, zero, suc, List, [], ◌++◌}

-- f 0, then f 1, .. , n of them
unfoldable pub run_of {ℓ} : {A : Type ℓ} → (ℕ → List A) → ℕ → List A
run_of f zero = []
run_of f (suc n) = run_of f n ++ f n

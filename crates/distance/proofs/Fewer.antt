-- More frames never foretell more misses.
use mathlib.Core.Path.{◌≡◌}
use mathlib.Core.Bool.{true, not}
use mathlib.Core.List.{List}
use Prim.Native.Nat.{ℕ, zero, suc, ◌≤◌}
use native.Mathlib.Omega.{arith}
use borrow.Author.Tests.{lt-ltb, ltb-true}
use Rattle.std.specs.Prelude.{Option, Some, None}
use Rattle.search.specs.Search.{one_if}
use Rattle.search.proofs.Count.{one_few, count_none, count_suc}
use Rattle.distance.specs.Distance.{distance_at, within, misses_to}
use Rattle.distance.proofs.Stack.{by_test}

-- fewer than f pages are fewer than g
pub within_wider : (f g : ℕ) (distance : Option ℕ) → f ≤ g → within f distance ≡ true → within g distance ≡ true
within_wider f g (Some d) l h = let m = ltb-true d f h in lt-ltb d g (omega arith)
within_wider f g None l h = h

-- so what is no miss with f frames is none with g
one_fewer : (f g : ℕ) (distance : Option ℕ) → f ≤ g → one_if (not (within g distance)) ≤ one_if (not (within f distance))
one_fewer f g distance l =
    by_test (within f distance) (λ e. rw (e, within_wider f g distance l e) (omega arith))
    (λ e. rw e (one_few (not (within g distance))))

pub fewer_misses : (pages : List ℕ) (f g n : ℕ) → f ≤ g → misses_to pages g n ≤ misses_to pages f n
unfolding misses_to
fewer_misses pages f g zero l =
    let a = count_none (λ i. not (within f (distance_at pages i))) in
    let b = count_none (λ i. not (within g (distance_at pages i))) in
    omega arith
fewer_misses pages f g (suc n) l =
    let h = fewer_misses pages f g n l in
    let one = one_fewer f g (distance_at pages n) l in
    let a = count_suc (λ i. not (within f (distance_at pages i))) n in
    let b = count_suc (λ i. not (within g (distance_at pages i))) n in
    omega arith

-- Only the sameness of pages counts: renamed one_to_one, they have the same distances and misses.
use mathlib.Core.Path.{◌≡◌, refl, ap, sym, ◌∙◌}
use mathlib.Core.Bool.{Bool, not}
use mathlib.Core.List.{List, [], ◌∷◌, map}
use Prim.Native.Nat.{ℕ, zero, suc, ◌+◌, ◌-◌, ◌≤◌, ◌<◌}
use native.Mathlib.Omega.{arith}
use lib.ListN.{length, get_or, drop, length-map, length-drop}
use lib.Seq.{get_or-drop}
use lib.Dec.{eqb}
use borrow.Author.Tests.{eq-eqb, ne_eqb, eqb-true, eqb-false}
use Rattle.std.specs.Prelude.{Option, Some, None}
use Rattle.search.specs.Search.{pick, on_found, is_found}
use Rattle.search.proofs.Count.{count_cong}
use Rattle.distance.specs.Distance.{last_use, distinct_in, distance_at, within, misses_to, misses_at}
use Rattle.distance.proofs.Stack.{by_test}

module _ (ρ : ℕ → ℕ) where
  -- no two different pages of a list get one name
  abbrev pub Apart : List ℕ → Type 0
  Apart pages = (i j : ℕ) → i < length pages → j < length pages → ρ (get_or pages i 0) ≡ ρ (get_or pages j 0) → get_or pages i 0 ≡ get_or pages j 0

  map_at : (pages : List ℕ) (i : ℕ) → i < length pages → get_or (map ρ pages) i 0 ≡ ρ (get_or pages i 0)
  map_at [] i l = absurd (omega arith)
  map_at (x ∷ xs) zero l = refl
  map_at (x ∷ xs) (suc i) l = map_at xs i (omega arith)

  map_drop : (m : ℕ) (pages : List ℕ) → drop m (map ρ pages) ≡ map ρ (drop m pages)
  map_drop zero pages = refl
  map_drop (suc m) [] = refl
  map_drop (suc m) (x ∷ xs) = map_drop m xs

  drop_apart : (m : ℕ) (pages : List ℕ) → Apart pages → Apart (drop m pages)
  drop_apart m pages a i j l k e =
      let d = length-drop m pages in
      let x = get_or-drop m pages i 0 in
      let y = get_or-drop m pages j 0 in
      x ∙ a (m + i) (m + j) (omega arith) (omega arith) (ap ρ (sym x) ∙ e ∙ ap ρ y) ∙ sym y

  use_renamed : (pages : List ℕ) (j n : ℕ) → Apart pages → j < length pages → n ≤ length pages
      → last_use (map ρ pages) (get_or (map ρ pages) j 0) n ≡ last_use pages (get_or pages j 0) n
  unfolding last_use
  use_renamed pages j zero a l m = refl
  use_renamed pages j (suc n) a l m =
      let x = get_or pages n 0 in
      let y = get_or pages j 0 in
      let e : eqb (get_or (map ρ pages) n 0) (get_or (map ρ pages) j 0) ≡ eqb x y =
      rw (map_at pages n m, map_at pages j l) (by_test (eqb x y)
      (λ q. rw q (eq-eqb (ρ x) (ρ y) (ap ρ (eqb-true x y q))))
      (λ q. rw q (ne_eqb (ρ x) (ρ y) (λ w. eqb-false x y q (a n j m l w))))) in
      ap (λ (b : Bool). pick b (Some n) (last_use (map ρ pages) (get_or (map ρ pages) j 0) n)) e
      ∙ ap (λ (r : Option ℕ). pick (eqb x y) (Some n) r) (use_renamed pages j n a l (omega arith))

  distinct_renamed : (pages : List ℕ) (n : ℕ) → Apart pages → n ≤ length pages → distinct_in (map ρ pages) n ≡ distinct_in pages n
  unfolding distinct_in
  distinct_renamed pages n a l =
      count_cong (λ i. not (is_found (last_use (map ρ pages) (get_or (map ρ pages) i 0) i))) (λ i. not (is_found (last_use pages (get_or pages i 0) i))) n
      (λ i m. ap (λ (r : Option ℕ). not (is_found r)) (use_renamed pages i i a (omega arith) (omega arith)))

  pub distance_renamed : (pages : List ℕ) (n : ℕ) → Apart pages → n < length pages → distance_at (map ρ pages) n ≡ distance_at pages n
  unfolding distance_at
  distance_renamed pages n a l =
      ap (λ (r : Option ℕ). on_found r (λ m. Some (distinct_in (drop (suc m) (map ρ pages)) (n - suc m))) None) (use_renamed pages n n a l (omega arith))
      ∙ go (last_use pages (get_or pages n 0) n)
    where
      go : (r : Option ℕ) → on_found r (λ m. Some (distinct_in (drop (suc m) (map ρ pages)) (n - suc m))) None ≡ on_found r (λ m. Some (distinct_in (drop (suc m) pages) (n - suc m))) None
      go None = refl
      go (Some m) =
          let d = length-drop (suc m) pages in
          ap (λ (k : List ℕ). Some (distinct_in k (n - suc m))) (map_drop (suc m) pages)
          ∙ ap Some (distinct_renamed (drop (suc m) pages) (n - suc m) (drop_apart (suc m) pages a) (omega arith))

  pub misses_renamed : (pages : List ℕ) (f : ℕ) → Apart pages → misses_at (map ρ pages) f ≡ misses_at pages f
  unfolding misses_to
  misses_renamed pages f a =
      ap (misses_to (map ρ pages) f) (length-map pages ρ)
      ∙ count_cong (λ i. not (within f (distance_at (map ρ pages) i))) (λ i. not (within f (distance_at pages i))) (length pages)
      (λ i l. ap (λ (r : Option ℕ). not (within f r)) (distance_renamed pages i a l))

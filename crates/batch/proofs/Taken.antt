-- The others of a batch are exactly the least ones in its order: sorted, none twice, none left out that comes before one taken, and all where the
-- batch is not full.
use mathlib.Core.Path.{◌≡◌, refl, ap, sym, subst, ◌∙◌}
use mathlib.Core.Bool.{Bool, true, false, ◌&&◌, ◌||◌, not, true≢false, and-eq-true_iff}
use mathlib.Core.List.{List, [], ◌∷◌, ◌++◌}
use mathlib.Core.Logic.{◌⊎◌, inl, inr, ⊎_elim}
use Prim.Native.Nat.{ℕ, zero, suc, ◌<◌}
use native.Mathlib.Omega.{arith}
use lib.ListN.{length, length-append}
use lib.Dec.{eqb}
use borrow.Author.Tests.{eqb-false}
use Rattle.std.specs.Prelude.{Option, Some, None}
use Rattle.search.specs.Search.{on_found, least_below, among}
use Rattle.search.proofs.Least.{Order, least_sound, least_none, least_least, least_lowest}
use Rattle.search.proofs.Every.{denied}
use Rattle.search.proofs.Among.{All, all_none, all_snoc, among_snoc}
use Rattle.batch.specs.Taken.{remaining, one_more, others_to}

-- t comes before i in the order, the lower number on a tie
abbrev pub Before : (ℕ → ℕ → Bool) → ℕ → ℕ → Type 0
Before before t i = (before i t ≡ false) × (i < t → before t i ≡ true)

-- each comes before all after it
unfoldable pub Sorted : (ℕ → ℕ → Bool) → List ℕ → Type 0
Sorted before [] = Unit {0}
Sorted before (x ∷ xs) = All (Before before x) xs × Sorted before xs

-- none stands twice
unfoldable pub Distinct : List ℕ → Type 0
Distinct [] = Unit {0}
Distinct (x ∷ xs) = All (λ y. x ≡ y → ⊥) xs × Distinct xs

module _ (waits : ℕ → Bool) (before : ℕ → ℕ → Bool) (f : ℕ) (ord : Order before) where
  abbrev others : ℕ → List ℕ
  others n = others_to waits before f n

  abbrev still : List ℕ → ℕ → Bool
  still xs = remaining waits before f xs

  sorted_snoc : (xs : List ℕ) (y : ℕ) → Sorted before xs → All (λ t. Before before t y) xs → Sorted before (xs ++ (y ∷ []))
  unfolding Sorted All
  sorted_snoc [] y s a = (tt, tt)
  sorted_snoc (x ∷ xs) y s a = (all_snoc (Before before x) xs y s.0 a.0, sorted_snoc xs y s.1 a.1)

  distinct_snoc : (xs : List ℕ) (y : ℕ) → Distinct xs → among xs y ≡ false → Distinct (xs ++ (y ∷ []))
  unfolding Distinct All among
  distinct_snoc [] y s a = (tt, tt)
  distinct_snoc (x ∷ xs) y s a = go (eqb x y) refl a (distinct_snoc xs y s.1)
    where
      go : (t : Bool) → eqb x y ≡ t → (t || among xs y) ≡ false → (among xs y ≡ false → Distinct (xs ++ (y ∷ []))) → All (λ z. x ≡ z → ⊥) (xs ++ (y ∷ [])) × Distinct (xs ++ (y ∷ []))
      go true e h rest = absurd (true≢false h)
      go false e h rest = (all_snoc (λ z. x ≡ z → ⊥) xs y s.0 (eqb-false x y e), rest h)

  none_distinct : Distinct []
  unfolding Distinct
  none_distinct = tt

  -- what waits after one more was taken waited before, and is another
  earlier : (xs : List ℕ) (i j : ℕ) → still (xs ++ (i ∷ [])) j ≡ true → (still xs j ≡ true) × (i ≡ j → ⊥)
  earlier xs i j h =
      let a = (and-eq-true_iff (waits j) (not (among (xs ++ (i ∷ [])) j))).0 h in
      parts (waits j) (among xs j) a.0 (subst (λ (b : Bool). not b ≡ true) (among_snoc xs i j) a.1)
    where
      parts : (w b : Bool) → w ≡ true → not (b || eqb i j) ≡ true → ((w && not b) ≡ true) × (i ≡ j → ⊥)
      parts true true e k = absurd (true≢false (sym k))
      parts true false e k = (refl, eqb-false i j (denied (eqb i j) k))
      parts false b e k = absurd (true≢false (sym e))

  -- the facts of the others, n of them or as many as there are
  pub record Chosen (xs : List ℕ) : Type 0 where
    pub waiting : All (λ t. (t < f) × (waits t ≡ true)) xs
    pub sorted : Sorted before xs
    pub distinct : Distinct xs
    pub least : (j : ℕ) → j < f → still xs j ≡ true → All (λ t. Before before t j) xs

  taken : (xs : List ℕ) → Chosen xs → (i : ℕ) → least_below (still xs) before f ≡ Some i → Chosen (xs ++ (i ∷ []))
  taken xs c i e =
      let w = least_sound (still xs) before f i e in
      let a = (and-eq-true_iff (waits i) (not (among xs i))).0 w.1 in record {
        waiting = all_snoc (λ t. (t < f) × (waits t ≡ true)) xs i c.waiting (w.0, a.0);
        sorted = sorted_snoc xs i c.sorted (c.least i w.0 w.1);
        distinct = distinct_snoc xs i c.distinct (denied (among xs i) a.1);
        least = λ j l h. let p = earlier xs i j h in
            all_snoc (λ t. Before before t j) xs i (c.least j l p.0)
            (least_least (still xs) before ord f i j e l p.0, λ k. least_lowest (still xs) before ord f i j e k p.0);
      }

  none_sorted : Sorted before []
  unfolding Sorted
  none_sorted = tt

  one_more_lem : (xs : List ℕ) → Chosen xs → Chosen (one_more waits before f xs)
  one_more_lem xs c = go (least_below (still xs) before f) refl
    where
      go : (r : Option ℕ) → least_below (still xs) before f ≡ r → Chosen (on_found r (λ i. xs ++ (i ∷ [])) xs)
      go (Some i) e = taken xs c i e
      go None e = c

  pub chosen : (n : ℕ) → Chosen (others n)
  unfolding others_to
  chosen zero = record { waiting = all_none (λ t. (t < f) × (waits t ≡ true)); sorted = none_sorted; distinct = none_distinct; least = λ j l h. all_none (λ t. Before before t j) }
  chosen (suc n) = one_more_lem (others n) (chosen n)

  -- as many as were asked for; or fewer, and then none is left
  abbrev pub Enough : List ℕ → ℕ → Type 0
  Enough xs n = (length xs ≡ n) ⊎ ((length xs < n) × ((j : ℕ) → j < f → still xs j ≡ false))

  grown : (xs : List ℕ) (i : ℕ) → length (xs ++ (i ∷ [])) ≡ suc (length xs)
  grown xs i = length-append xs (i ∷ []) ∙ omega arith

  enough_more : (xs : List ℕ) (n : ℕ) → Enough xs n → Enough (one_more waits before f xs) (suc n)
  enough_more xs n h = go (least_below (still xs) before f) refl
    where
      short : Enough xs n → length xs < suc n
      short (inl q) = omega arith
      short (inr q) = let z = q.0 in omega arith

      go : (r : Option ℕ) → least_below (still xs) before f ≡ r → Enough (on_found r (λ i. xs ++ (i ∷ [])) xs) (suc n)
      go (Some i) e =
          let w = least_sound (still xs) before f i e in
          ⊎_elim (λ q. inl (grown xs i ∙ ap suc q)) (λ q. absurd (true≢false (sym w.1 ∙ q.1 i w.0))) h
      go None e = inr (short h, λ j l. least_none (still xs) before f j e l)

  pub enough : (n : ℕ) → Enough (others n) n
  unfolding others_to
  enough zero = inl refl
  enough (suc n) = enough_more (others n) n (enough n)

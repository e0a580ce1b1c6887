-- A test of every member of a list is a test of every place of it, and as many members pass as places.
use mathlib.Core.Path.{◌≡◌, refl, ap, sym, ◌∙◌}
use mathlib.Core.Bool.{Bool, true, false, cond, ◌&&◌, and-true, and_assoc}
use mathlib.Core.List.{List, [], ◌∷◌}
use Prim.Native.Nat.{ℕ, zero, suc, ◌+◌, ◌<◌}
use native.Mathlib.Omega.{arith}
use lib.ListN.{length, get_or}
use Rattle.std.specs.List.{list_all, count_by, range_with_len}
use native.Mathlib.Nat.{zero-add}
use Rattle.std.proofs.lemmas.List.Recursion.{is_count_by}
use Rattle.std.proofs.lemmas.List.FromFn.{length-range_with_len, get_or-range_with_len}
use Rattle.search.specs.Search.{every_below, one_if, count_below}
use Rattle.search.proofs.Count.{count_none, count_suc}
use Rattle.search.proofs.Every.{every_of, every_at, same_test}

-- tests that agree below the bound
pub every_same : (ok such : ℕ → Bool) (n : ℕ) → ((i : ℕ) → i < n → ok i ≡ such i) → every_below ok n ≡ every_below such n
every_same ok such n f =
    same_test (every_below ok n) (every_below such n)
    (λ h. every_of such n (λ i l. sym (f i l) ∙ every_at ok n i h l))
    (λ h. every_of ok n (λ i l. f i l ∙ every_at such n i h l))

-- the first place by itself
every_front : (ok : ℕ → Bool) (n : ℕ) → every_below ok (suc n) ≡ (ok 0 && every_below (λ j. ok (suc j)) n)
unfolding every_below
every_front ok zero = sym (and-true (ok 0))
every_front ok (suc n) = ap (λ (b : Bool). b && ok (suc n)) (every_front ok n) ∙ and_assoc (ok 0) (every_below (λ j. ok (suc j)) n) (ok (suc n))

pub all_places : {X : Type 0} (test : X → Bool) (d : X) (xs : List X) → list_all test xs ≡ every_below (λ j. test (get_or xs j d)) (length xs)
unfolding every_below
all_places test d [] = refl
all_places test d (x ∷ xs) = ap (λ (b : Bool). test x && b) (all_places test d xs) ∙ sym (every_front (λ j. test (get_or (x ∷ xs) j d)) (length xs))

-- of the numbers from 0 on
pub all_numbers : (test : ℕ → Bool) (n : ℕ) → list_all test (range_with_len 0 n) ≡ every_below test n
all_numbers test n =
    all_places test 0 (range_with_len 0 n)
    ∙ ap (every_below (λ j. test (get_or (range_with_len 0 n) j 0))) (length-range_with_len 0 n)
    ∙ every_same (λ j. test (get_or (range_with_len 0 n) j 0)) test n (λ i l. ap test (get_or-range_with_len 0 n i 0 l ∙ omega arith))

-- how many members pass, likewise
count_front : (ok : ℕ → Bool) (n : ℕ) → count_below ok (suc n) ≡ one_if (ok 0) + count_below (λ j. ok (suc j)) n
count_front ok zero = let e = count_suc ok 0 in let z = count_none ok in let y = count_none (λ j. ok (suc j)) in omega arith
count_front ok (suc n) =
    let e = count_suc ok (suc n) in let h = count_front ok n in let f = count_suc (λ j. ok (suc j)) n in omega arith

pub count_places : {X : Type 0} (test : X → Bool) (d : X) (xs : List X) → count_by test xs ≡ count_below (λ j. test (get_or xs j d)) (length xs)
count_places {X} test d xs =
    sym
    (is_count_by (λ (ys : List X). count_below (λ j. test (get_or ys j d)) (length ys)) test (count_none (λ j. test (get_or [] j d)))
    (λ y ys. count_front (λ j. test (get_or (y ∷ ys) j d)) (length ys) ∙ one (test y) (count_below (λ j. test (get_or ys j d)) (length ys)))
    xs)
  where
    one : (b : Bool) (n : ℕ) → one_if b + n ≡ cond b (1 + n) n
    one true n = refl
    one false n = zero-add n

-- Laws of the numbers in a list: facts of all of them, and more at the end.
use mathlib.Core.Path.{◌≡◌, refl, ap, sym, ◌∙◌}
use mathlib.Core.Bool.{Bool, true, false, ◌||◌, or_assoc, or-false, or-true}
use mathlib.Core.List.{List, [], ◌∷◌, ◌++◌, map}
use Prim.Native.Nat.{ℕ, zero, suc, ◌<◌}
use native.Mathlib.Omega.{arith}
use native.Mathlib.Nat.{not-suc-le-zero}
use lib.ListN.{length, get_or}
use lib.Dec.{eqb}
use borrow.Author.Tests.{eq-eqb, eqb-true}
use Rattle.search.specs.Search.{among}

pub among_append : (xs ys : List ℕ) (i : ℕ) → among (xs ++ ys) i ≡ (among xs i || among ys i)
unfolding among
among_append [] ys i = refl
among_append (x ∷ xs) ys i = ap (λ (b : Bool). eqb x i || b) (among_append xs ys i) ∙ sym (or_assoc (eqb x i) (among xs i) (among ys i))

pub among_snoc : (xs : List ℕ) (y i : ℕ) → among (xs ++ (y ∷ [])) i ≡ (among xs i || eqb y i)
unfolding among
among_snoc xs y i = among_append xs (y ∷ []) i ∙ ap (λ (b : Bool). among xs i || b) (or-false (eqb y i))

-- what is in one of two lists is in both together
pub among_first : (xs ys : List ℕ) (i : ℕ) → among xs i ≡ true → among (xs ++ ys) i ≡ true
among_first xs ys i h = among_append xs ys i ∙ ap (λ (b : Bool). b || among ys i) h

pub among_second : (xs ys : List ℕ) (i : ℕ) → among ys i ≡ true → among (xs ++ ys) i ≡ true
among_second xs ys i h = among_append xs ys i ∙ ap (λ (b : Bool). among xs i || b) h ∙ or-true (among xs i)

-- a number that stands in a list is in it
pub among_at : (xs : List ℕ) (n : ℕ) → n < length xs → among xs (get_or xs n 0) ≡ true
unfolding among
among_at [] n l = absurd (not-suc-le-zero l)
among_at (x ∷ xs) zero l = ap (λ (b : Bool). b || among xs x) (eq-eqb x x refl)
among_at (x ∷ xs) (suc n) l = ap (λ (b : Bool). eqb x (get_or xs n 0) || b) (among_at xs n (omega arith)) ∙ or-true (eqb x (get_or xs n 0))

-- what a function makes of a number of a list is among what it makes of the list
pub among_map : (f : ℕ → ℕ) (xs : List ℕ) (i : ℕ) → among xs i ≡ true → among (map f xs) (f i) ≡ true
unfolding among
among_map f [] i h = h
among_map f (x ∷ xs) i h = go (eqb x i) refl h (among_map f xs i)
  where
    go : (b : Bool) → eqb x i ≡ b → (b || among xs i) ≡ true → (among xs i ≡ true → among (map f xs) (f i) ≡ true) → (eqb (f x) (f i) || among (map f xs) (f i)) ≡ true
    go true e k rest = ap (λ (b : Bool). b || among (map f xs) (f i)) (eq-eqb (f x) (f i) (ap f (eqb-true x i e)))
    go false e k rest = ap (λ (b : Bool). eqb (f x) (f i) || b) (rest k) ∙ or-true (eqb (f x) (f i))

-- what holds of every number of a list
unfoldable pub All : (ℕ → Type 0) → List ℕ → Type 0
All P [] = Unit {0}
All P (x ∷ xs) = P x × All P xs

pub all_none : (P : ℕ → Type 0) → All P []
unfolding All
all_none P = tt

pub all_snoc : (P : ℕ → Type 0) (xs : List ℕ) (y : ℕ) → All P xs → P y → All P (xs ++ (y ∷ []))
unfolding All
all_snoc P [] y a h = (h, tt)
all_snoc P (x ∷ xs) y a h = (a.0, all_snoc P xs y a.1 h)

-- what follows for each of them
pub all_for : (P Q : ℕ → Type 0) (xs : List ℕ) → All P xs → ((x : ℕ) → P x → Q x) → All Q xs
unfolding All
all_for P Q [] a f = tt
all_for P Q (x ∷ xs) a f = (f x a.0, all_for P Q xs a.1 f)

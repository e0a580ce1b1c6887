-- Laws of the scale: each step fits, and the search for the first that is enough.
use mathlib.Core.Path.{◌≡◌, refl, sym, ap, ◌∙◌}
use mathlib.Core.Bool.{Bool, true, false, ◌&&◌, and-eq-true_iff}
use mathlib.Core.List.{List, [], ◌∷◌}
use Prim.Native.Nat.{ℕ, zero, suc, ◌+◌, ◌*◌, ◌-◌, ◌/◌, ◌≤◌, ◌<◌, max}
use native.Mathlib.Omega.{arith}
use native.Mathlib.Nat.{mul-le-mul, mul-le-mul_right, div-lt_iff_lt-mul}
use native.Mathlib.Numerals.{add-one}
use lib.Dec.{leb}
use lib.ListN.{length, get_or, drop}
use lib.Seq.{drop-cons}
use borrow.Author.Tests.{leb-true}
use Rattle.scale.specs.Scale.{steps, first_enough, step_of, ticks_of, top_of, y_of}

abbrev fits : ℕ → Bool
fits s = leb 1 s && leb s 500000000

abbrev all_fit : List ℕ → Bool
all_fit [] = true
all_fit (s ∷ l) = fits s && all_fit l

fits_at : (l : List ℕ) → all_fit l ≡ true → (i : ℕ) → i < length l → (1 ≤ get_or l i 0) × (get_or l i 0 ≤ 500000000)
fits_at [] h i q = absurd (omega arith)
fits_at (s ∷ l) h zero q =
    let b = (and-eq-true_iff (leb 1 s) (leb s 500000000)).0 ((and-eq-true_iff (fits s) (all_fit l)).0 h).0 in
    (leb-true 1 s b.0, leb-true s 500000000 b.1)
fits_at (s ∷ l) h (suc i) q = fits_at l ((and-eq-true_iff (fits s) (all_fit l)).0 h).1 i (omega arith)

pub step_fits : (i : ℕ) → i < 27 → (1 ≤ get_or steps i 0) × (get_or steps i 0 ≤ 500000000)
step_fits i h = fits_at steps refl i h

module _ (most i s : ℕ) (few : i < 27) (here : s ≡ get_or steps i 0) (found : first_enough most (drop i steps) ≡ step_of most) where
  split : first_enough most (s ∷ drop (suc i) steps) ≡ step_of most
  split = rw here (sym (ap (first_enough most) (drop-cons steps i 0 few)) ∙ found)

  -- a step that is enough is the first, where none before it is
  pub first_here : leb most (10 * s) ≡ true → s ≡ step_of most
  first_here t = rw t at split

  pub first_behind : leb most (10 * s) ≡ false → first_enough most (drop (i + 1) steps) ≡ step_of most
  first_behind t = rw add-one (rw t at split)

-- ten steps are enough for the most, so ten lines are
pub few_ticks : (most s : ℕ) → 1 ≤ s → most ≤ 10 * s → (most + (s - 1)) / s ≤ 10
few_ticks most s p h = let q = (div-lt_iff_lt-mul {k = s} {x = most + (s - 1)} {y = 11} p).1 (omega arith) in omega arith

pub few_misses : (s t : ℕ) → s ≤ 500000000 → t ≤ 10 → s * t ≤ 5000000000
few_misses s t a b = mul-le-mul a b

pub some_misses : (s t : ℕ) → 1 ≤ s → t ≤ s * t
some_misses s t a = let h = mul-le-mul_right t a in omega arith

at_least_one : (n : ℕ) → max n 1 ≡ max 1 n
at_least_one n = omega arith

pub ticks_is : (most s : ℕ) → s ≡ step_of most → max ((most + (s - 1)) / s) 1 ≡ ticks_of most
unfolding ticks_of
ticks_is most s is = rw (← is) (at_least_one _)

pub top_is : (most t top : ℕ) → t ≡ ticks_of most → top ≡ step_of most * t → top ≡ top_of most
unfolding top_of
top_is most t top e f = rw (f, e)

pub y_is : (most misses top : ℕ) → top ≡ top_of most → 940 - 760 * misses / top ≡ y_of most misses
unfolding y_of
y_is most misses top is = rw is

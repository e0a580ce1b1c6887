-- Laws of how many numbers below a bound pass a test.
use mathlib.Core.Path.{◌≡◌, refl, ap, sym, ◌∙◌}
use mathlib.Core.Bool.{Bool, true, false}
use Prim.Native.Nat.{ℕ, zero, suc, ◌+◌, ◌≤◌, ◌<◌}
use native.Mathlib.Omega.{arith}
use native.Mathlib.Numerals.{add-one}
use native.Mathlib.Nat.{not-suc-le-zero}
use lib.Dec.{ltb}
use borrow.Author.Tests.{lt-ltb, le-ltb}
use Rattle.search.specs.Search.{one_if, count_below}
use Rattle.search.proofs.Least.{last_or_below}

-- a test counts at most once
pub one_few : (b : Bool) → one_if b ≤ 1
one_few true = omega arith
one_few false = omega arith

pub count_none : (ok : ℕ → Bool) → count_below ok 0 ≡ 0
unfolding count_below
count_none ok = refl

pub count_suc : (ok : ℕ → Bool) (n : ℕ) → count_below ok (suc n) ≡ count_below ok n + one_if (ok n)
unfolding count_below
count_suc ok n = refl

pub count_more : (ok : ℕ → Bool) (n : ℕ) → count_below ok (n + 1) ≡ count_below ok n + one_if (ok n)
count_more ok n = ap (count_below ok) (add-one n) ∙ count_suc ok n

-- no more than there are
pub count_few : (ok : ℕ → Bool) (n : ℕ) → count_below ok n ≤ n
count_few ok zero = let e = count_none ok in omega arith
count_few ok (suc n) = let e = count_suc ok n in let h = count_few ok n in let l = one_few (ok n) in omega arith

-- tests that agree count the same
pub count_cong : (ok such : ℕ → Bool) (n : ℕ) → ((i : ℕ) → i < n → ok i ≡ such i) → count_below ok n ≡ count_below such n
count_cong ok such zero f = count_none ok ∙ sym (count_none such)
count_cong ok such (suc n) f = count_suc ok n ∙ (rw (count_cong ok such n (λ i l. f i (omega arith)), f n (omega arith))) ∙ sym (count_suc such n)

-- where just the numbers below u pass, u do
pub count_lowest : (ok : ℕ → Bool) (n u : ℕ) → u ≤ n → ((i : ℕ) → i < u → ok i ≡ true) → ((i : ℕ) → u ≤ i → i < n → ok i ≡ false) → count_below ok n ≡ u
count_lowest ok zero u l f g = let e = count_none ok in omega arith
count_lowest ok (suc n) u l f g =
    last_or_below u (suc n) (omega arith)
    (λ q. let e = count_lowest ok n n (omega arith) (λ i m. f i (omega arith)) (λ i m k. absurd (omega arith)) in let a = count_suc ok n in let x = ap one_if (f n (omega arith)) in omega arith)
    (λ q. let e = count_lowest ok n u (omega arith) f (λ i m k. g i m (omega arith)) in let a = count_suc ok n in let x = ap one_if (g n (omega arith) (omega arith)) in omega arith)

-- where those that pass are the lowest, a number passes just where it is below how many do
pub lowest_count : (ok : ℕ → Bool) (n : ℕ) → ((i : ℕ) → i < n → ok i ≡ true → (j : ℕ) → j < i → ok j ≡ true) → (i : ℕ) → i < n → ok i ≡ ltb i (count_below ok n)
lowest_count ok zero low i l = absurd (not-suc-le-zero l)
lowest_count ok (suc n) low i l = go (ok n) refl (lowest_count ok n (λ j m. low j (omega arith)) i)
  where
    go : (t : Bool) → ok n ≡ t → (i < n → ok i ≡ ltb i (count_below ok n)) → ok i ≡ ltb i (count_below ok (suc n))
    go true e before =
        let all : (j : ℕ) → j < suc n → ok j ≡ true = λ j m. last_or_below j n m (λ q. ap ok q ∙ e) (λ q. low n (omega arith) e j q) in
        let c = count_lowest ok (suc n) (suc n) (omega arith) all (λ j m k. absurd (omega arith)) in
        all i l ∙ sym (lt-ltb i (count_below ok (suc n)) (omega arith))
    go false e before =
        let c : count_below ok (suc n) ≡ count_below ok n = let a = count_suc ok n in let x = ap one_if e in omega arith in
        let few = count_few ok n in
        last_or_below i n l
        (λ q. ap ok q ∙ e ∙ sym (le-ltb i (count_below ok (suc n)) (omega arith)))
        (λ q. before q ∙ ap (ltb i) (sym c))

-- tests that agree but at one number
pub count_but_one : (ok such : ℕ → Bool) (n i : ℕ) → i < n → ((j : ℕ) → (j ≡ i → ⊥) → ok j ≡ such j)
    → count_below ok n + one_if (such i) ≡ count_below such n + one_if (ok i)
count_but_one ok such zero i l f = absurd (not-suc-le-zero l)
count_but_one ok such (suc n) i l f =
    last_or_below i n l
    (λ q. at q (count_cong ok such n (λ j m. f j (λ e. omega arith))))
    (λ q. below (count_but_one ok such n i q f) (f n (λ e. omega arith)))
  where
    at : i ≡ n → count_below ok n ≡ count_below such n → count_below ok (suc n) + one_if (such i) ≡ count_below such (suc n) + one_if (ok i)
    at e h = let a = count_suc ok n in let b = count_suc such n in let x = ap (λ (j : ℕ). one_if (ok j)) e in let y = ap (λ (j : ℕ). one_if (such j)) e in omega arith

    below : count_below ok n + one_if (such i) ≡ count_below such n + one_if (ok i) → ok n ≡ such n → count_below ok (suc n) + one_if (such i) ≡ count_below such (suc n) + one_if (ok i)
    below h e = let a = count_suc ok n in let b = count_suc such n in let x = ap (λ (t : Bool). one_if t) e in omega arith

-- Laws of a test of every number below a bound, and of cases on tests.
use mathlib.Core.Path.{◌≡◌, refl, ap, sym, ◌∙◌}
use mathlib.Core.Bool.{Bool, true, false, ◌&&◌, not, true≢false, and-eq-true_iff}
use Prim.Native.Nat.{ℕ, zero, suc, ◌+◌, ◌<◌}
use native.Mathlib.Omega.{arith}
use native.Mathlib.Numerals.{add-one}
use native.Mathlib.Nat.{not-suc-le-zero}
use Rattle.search.specs.Search.{pick, every_below}
use Rattle.search.proofs.Least.{last_or_below}

-- what holds of both sides of a pick holds of the pick
pub pick_ind {ℓ} : {A : Type ℓ} (P : A → Type 0) (t : Bool) (a b : A) → (t ≡ true → P a) → (t ≡ false → P b) → P (pick t a b)
pick_ind P true a b f g = f refl
pick_ind P false a b f g = g refl

-- two tests that pass together are equal
pub same_test : (a b : Bool) → (a ≡ true → b ≡ true) → (b ≡ true → a ≡ true) → a ≡ b
same_test true b f g = sym (f refl)
same_test false true f g = g refl
same_test false false f g = refl

-- what a denied test tells
pub denied : (b : Bool) → not b ≡ true → b ≡ false
denied true h = sym h
denied false h = refl

pub undenied : (b : Bool) → not b ≡ false → b ≡ true
undenied true h = refl
undenied false h = sym h

pub not_so : (b : Bool) → (b ≡ true → ⊥) → b ≡ false
not_so true h = absurd (h refl)
not_so false h = refl

pub every_none : (ok : ℕ → Bool) → every_below ok 0 ≡ true
unfolding every_below
every_none ok = refl

every_suc : (ok : ℕ → Bool) (n : ℕ) → every_below ok (suc n) ≡ (every_below ok n && ok n)
unfolding every_below
every_suc ok n = refl

pub every_next : (ok : ℕ → Bool) (n : ℕ) → every_below ok (n + 1) ≡ (every_below ok n && ok n)
every_next ok n = ap (every_below ok) (add-one n) ∙ every_suc ok n

pub every_more : (ok : ℕ → Bool) (n : ℕ) → every_below ok n ≡ true → ok n ≡ true → every_below ok (n + 1) ≡ true
every_more ok n h e = every_next ok n ∙ rw (h, e)

-- what passed tells each, and each tells that all pass
pub every_at : (ok : ℕ → Bool) (n i : ℕ) → every_below ok n ≡ true → i < n → ok i ≡ true
every_at ok zero i h l = absurd (not-suc-le-zero l)
every_at ok (suc n) i h l =
    let b = (and-eq-true_iff (every_below ok n) (ok n)).0 (sym (every_suc ok n) ∙ h) in
    last_or_below i n l (λ q. ap ok q ∙ b.1) (λ q. every_at ok n i b.0 q)

pub every_of : (ok : ℕ → Bool) (n : ℕ) → ((i : ℕ) → i < n → ok i ≡ true) → every_below ok n ≡ true
every_of ok zero f = every_none ok
every_of ok (suc n) f = every_suc ok n ∙ rw (every_of ok n (λ i l. f i (omega arith)), f n (omega arith))

-- one that fails fails them all
pub every_fails : (ok : ℕ → Bool) (n i : ℕ) → i < n → ok i ≡ false → every_below ok n ≡ false
every_fails ok n i l e = go (every_below ok n) refl
  where
    go : (t : Bool) → every_below ok n ≡ t → t ≡ false
    go true h = absurd (true≢false (sym (every_at ok n i h l) ∙ e))
    go false h = refl

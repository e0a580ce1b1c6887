-- Laws of lists without a page, and of the stack of pages.
use mathlib.Core.Path.{◌≡◌, refl, ap, sym, ◌∙◌}
use mathlib.Core.Bool.{Bool, true, false, true≢false}
use mathlib.Core.List.{List, [], ◌∷◌}
use Prim.Native.Nat.{ℕ, zero, suc, ◌≤◌}
use native.Mathlib.Omega.{arith}
use lib.ListN.{length, get_or, take}
use lib.Seq.{take-take}
use lib.Dec.{eqb}
use borrow.Author.Tests.{eq-eqb, ne_eqb, eqb-true}
use Rattle.search.specs.Search.{among}
use Rattle.distance.specs.Recent.{without, touched, recent}

-- cases on a test
pub by_test {ℓ} : {P : Type ℓ} (t : Bool) → (t ≡ true → P) → (t ≡ false → P) → P
by_test true f g = f refl
by_test false f g = g refl

-- where the first is the number, and where it is not
pub without_none : (x : ℕ) → without x [] ≡ []
unfolding without
without_none x = refl

pub without_here : (x y : ℕ) (ys : List ℕ) → eqb y x ≡ true → without x (y ∷ ys) ≡ ys
unfolding without
without_here x y ys e = rw e

pub without_there : (x y : ℕ) (ys : List ℕ) → eqb y x ≡ false → without x (y ∷ ys) ≡ y ∷ without x ys
unfolding without
without_there x y ys e = rw e

pub among_none : (x : ℕ) → among [] x ≡ false
unfolding among
among_none x = refl

pub among_here : (x y : ℕ) (ys : List ℕ) → eqb y x ≡ true → among (y ∷ ys) x ≡ true
unfolding among
among_here x y ys e = rw e

pub among_there : (x y : ℕ) (ys : List ℕ) → eqb y x ≡ false → among (y ∷ ys) x ≡ among ys x
unfolding among
among_there x y ys e = rw e

pub not_there : (x : ℕ) → among [] x ≡ true → ⊥
not_there x h = true≢false (sym h ∙ among_none x)

-- what is in a list: its first, and what is in the rest
pub among_head : (x : ℕ) (ys : List ℕ) → among (x ∷ ys) x ≡ true
among_head x ys = among_here x x ys (eq-eqb x x refl)

pub among_more : (x y : ℕ) (ys : List ℕ) → among ys x ≡ true → among (y ∷ ys) x ≡ true
among_more x y ys h = by_test (eqb y x) (λ e. among_here x y ys e) (λ e. among_there x y ys e ∙ h)

-- a number that is not there
pub without_absent : (x : ℕ) (l : List ℕ) → among l x ≡ false → without x l ≡ l
without_absent x [] h = without_none x
without_absent x (y ∷ ys) h =
    by_test (eqb y x) (λ e. absurd (true≢false (sym (among_here x y ys e) ∙ h)))
    (λ e. without_there x y ys e ∙ ap (λ (l : List ℕ). y ∷ l) (without_absent x ys (sym (among_there x y ys e) ∙ h)))

-- one that is there
pub without_length : (x : ℕ) (l : List ℕ) → among l x ≡ true → length l ≡ suc (length (without x l))
without_length x [] h = absurd (not_there x h)
without_length x (y ∷ ys) h =
    by_test (eqb y x) (λ e. ap (λ (l : List ℕ). suc (length l)) (sym (without_here x y ys e)))
    (λ e. ap suc (without_length x ys (sym (among_there x y ys e) ∙ h)) ∙ ap (λ (l : List ℕ). suc (length l)) (sym (without_there x y ys e)))

-- others stay, and there are no new ones
pub without_other : (x z : ℕ) (l : List ℕ) → (z ≡ x → ⊥) → among l z ≡ true → among (without x l) z ≡ true
without_other x z [] n h = absurd (not_there z h)
without_other x z (y ∷ ys) n h =
    by_test (eqb y z)
    (λ q. rw (without_there x y ys (ne_eqb y x (λ e. n (sym (eqb-true y z q) ∙ e)))) (among_here z y (without x ys) q))
    (λ q. let r = sym (among_there z y ys q) ∙ h in
    by_test (eqb y x) (λ e. rw (without_here x y ys e) r) (λ e. rw (without_there x y ys e) (among_more z y (without x ys) (without_other x z ys n r))))

pub without_from : (x z : ℕ) (l : List ℕ) → among (without x l) z ≡ true → among l z ≡ true
without_from x z [] h = rw (without_none x) at h
without_from x z (y ∷ ys) h =
    by_test (eqb y x) (λ e. among_more z y ys (rw (without_here x y ys e) at h))
    (λ e. by_test (eqb y z) (λ q. among_here z y ys q)
    (λ q. among_more z y ys (without_from x z ys (sym (among_there z y (without x ys) q) ∙ (rw (without_there x y ys e) at h)))))

-- the first f of the stack afterwards depend on the first f alone
take_without : (n x : ℕ) (l : List ℕ) → take n (without x l) ≡ take n (without x (take (suc n) l))
take_without n x [] = refl
take_without zero x (y ∷ ys) = refl
take_without (suc n) x (y ∷ ys) =
    by_test (eqb y x) (λ e. rw (without_here x y ys e, without_here x y (take (suc n) ys) e) (sym (take-take (suc n) (suc n) ys (omega arith))))
    (λ e. rw (without_there x y ys e, without_there x y (take (suc n) ys) e) (ap (λ (l : List ℕ). y ∷ l) (take_without n x ys)))

pub take_touched : (f x : ℕ) (l : List ℕ) → take f (touched x l) ≡ take f (touched x (take f l))
take_touched zero x l = refl
take_touched (suc f) x l = ap (λ (r : List ℕ). x ∷ r) (take_without f x l)

-- the stack with one page more
pub recent_none : (pages : List ℕ) → recent pages 0 ≡ []
unfolding recent
recent_none pages = refl

pub recent_suc : (pages : List ℕ) (n : ℕ) → recent pages (suc n) ≡ touched (get_or pages n 0) (recent pages n)
unfolding recent
recent_suc pages n = refl

-- its first f pages come from the first f before
pub top_suc : (pages : List ℕ) (f n : ℕ) → take f (recent pages (suc n)) ≡ take f (touched (get_or pages n 0) (take f (recent pages n)))
top_suc pages f n = ap (take f) (recent_suc pages n) ∙ take_touched f (get_or pages n 0) (recent pages n)

-- what is among the first f is among the first g, where those are no fewer
pub take_among : (f g x : ℕ) (l : List ℕ) → f ≤ g → among (take f l) x ≡ true → among (take g l) x ≡ true
take_among zero g x l m h = absurd (not_there x h)
take_among (suc f) zero x l m h = absurd (omega arith)
take_among (suc f) (suc g) x [] m h = h
take_among (suc f) (suc g) x (y ∷ ys) m h =
    by_test (eqb y x) (λ e. among_here x y (take g ys) e)
    (λ e. among_more x y (take g ys) (take_among f g x ys (omega arith) (sym (among_there x y (take f ys) e) ∙ h)))

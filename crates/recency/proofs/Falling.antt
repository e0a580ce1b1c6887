-- Laws of numbers by falling keys, and of functions on a list without a number.
use mathlib.Core.Path.{◌≡◌, refl, ap, sym, subst, ◌∙◌}
use mathlib.Core.List.{List, [], ◌∷◌, map}
use mathlib.Core.Bool.{true, false}
use Prim.Native.Nat.{ℕ, zero, suc, ◌≤◌, ◌<◌}
use native.Mathlib.Omega.{arith}
use lib.ListN.{length, take}
use lib.Dec.{eqb}
use borrow.Author.Tests.{eq-eqb, ne_eqb, eqb-true, eqb-false}
use Rattle.search.specs.Search.{among}
use Rattle.distance.specs.Recent.{without}
use Rattle.distance.proofs.Stack.{by_test, without_none, without_here, without_there, without_length, among_none, among_there, among_head, among_more, not_there}
use Rattle.recency.specs.Ordered.{Falling}

-- functions that agree on a list
pub map_agree : (f g : ℕ → ℕ) (l : List ℕ) → ((j : ℕ) → among l j ≡ true → f j ≡ g j) → map f l ≡ map g l
map_agree f g [] h = refl
map_agree f g (y ∷ ys) h = rw (h y (among_head y ys)) (ap (λ (r : List ℕ). g y ∷ r) (map_agree f g ys (λ j a. h j (among_more j y ys a))))

-- a function that gives i's value to no other of the list
pub map_without : (f : ℕ → ℕ) (i : ℕ) (l : List ℕ) → ((j : ℕ) → among l j ≡ true → f j ≡ f i → j ≡ i) → map f (without i l) ≡ without (f i) (map f l)
map_without f i [] h = ap (map f) (without_none i) ∙ sym (without_none (f i))
map_without f i (y ∷ ys) h =
    by_test (eqb y i) (λ e. rw (without_here i y ys e, without_here (f i) (f y) (map f ys) (eq-eqb (f y) (f i) (ap f (eqb-true y i e)))))
    (λ e. rw (without_there i y ys e, without_there (f i) (f y) (map f ys) (ne_eqb (f y) (f i) (λ q. eqb-false y i e (h y (among_head y ys) q))))
    (ap (λ (r : List ℕ). f y ∷ r) (map_without f i ys (λ j a. h j (among_more j y ys a)))))

-- a number that it gives to none
pub map_absent : (f : ℕ → ℕ) (x : ℕ) (l : List ℕ) → ((j : ℕ) → among l j ≡ true → f j ≡ x → ⊥) → among (map f l) x ≡ false
map_absent f x [] h = among_none x
map_absent f x (y ∷ ys) h =
    among_there x (f y) (map f ys) (ne_eqb (f y) x (h y (among_head y ys))) ∙ map_absent f x ys (λ j a. h j (among_more j y ys a))

pub map_take : (f : ℕ → ℕ) (n : ℕ) (l : List ℕ) → map f (take n l) ≡ take n (map f l)
map_take f zero l = refl
map_take f (suc n) [] = refl
map_take f (suc n) (y ∷ ys) = ap (λ (r : List ℕ). f y ∷ r) (map_take f n ys)

-- Numbers by falling keys.
module _ (ok : ℕ → Type 0) (key : ℕ → ℕ) where
  -- each is such, and its key is below the bound
  pub falling_at : (b : ℕ) (l : List ℕ) (i : ℕ) → Falling ok key b l → among l i ≡ true → ok i × (key i < b)
  unfolding Falling
  falling_at b [] i h a = absurd (not_there i a)
  falling_at b (y ∷ ys) i h a =
      by_test (eqb y i) (λ e. subst (λ (x : ℕ). ok x × (key x < b)) (eqb-true y i e) (h.0, h.1))
      (λ e. let r = falling_at (key y) ys i h.2 (sym (among_there i y ys e) ∙ a) in let m = r.1 in let n = h.1 in (r.0, omega arith))

  falling_up : (b c : ℕ) (l : List ℕ) → b ≤ c → Falling ok key b l → Falling ok key c l
  unfolding Falling
  falling_up b c [] m h = tt
  falling_up b c (y ∷ ys) m h = let n = h.1 in (h.0, omega arith, h.2)

  -- without one of them they still fall, and that one is gone
  pub falling_without : (b i : ℕ) (l : List ℕ) → Falling ok key b l → Falling ok key b (without i l)
  unfolding Falling
  falling_without b i [] h = rw (without_none i) tt
  falling_without b i (y ∷ ys) h =
      by_test (eqb y i) (λ e. let n = h.1 in rw (without_here i y ys e) (falling_up (key y) b ys (omega arith) h.2))
      (λ e. rw (without_there i y ys e) (h.0, h.1, falling_without (key y) i ys h.2))

  pub falling_gone : (b i : ℕ) (l : List ℕ) → Falling ok key b l → among (without i l) i ≡ true → ⊥
  unfolding Falling
  falling_gone b i [] h a = not_there i (rw (without_none i) at a)
  falling_gone b i (y ∷ ys) h a =
      by_test (eqb y i)
      (λ e. let r = (falling_at (key y) ys i h.2 (rw (without_here i y ys e) at a)).1 in let q = ap key (eqb-true y i e) in omega arith)
      (λ e. falling_gone (key y) i ys h.2 (sym (among_there i y (without i ys) e) ∙ (rw (without_there i y ys e) at a)))

  -- the one with the least key is the last
  alone : (y v n : ℕ) (ys : List ℕ) → Falling ok key (key y) ys → ((j : ℕ) → among ys j ≡ true → key v ≤ key j) → y ≡ v → length ys ≡ n → ys ≡ take n (y ∷ ys)
  unfolding Falling
  alone y v zero [] f m q s = refl
  alone y v (suc n) [] f m q s = absurd (omega arith)
  alone y v n (k ∷ ks) f m q s = let r = f.1 in let t = m k (among_head k ks) in let u = ap key q in absurd (omega arith)

  pub without_least : (b v n : ℕ) (l : List ℕ) → Falling ok key b l → among l v ≡ true → ((j : ℕ) → among l j ≡ true → key v ≤ key j) → length l ≡ suc n → without v l ≡ take n l
  unfolding Falling
  without_least b v n [] h a least e = absurd (not_there v a)
  without_least b v zero (y ∷ ys) h a least e =
      by_test (eqb y v)
      (λ q. without_here v y ys q ∙ alone y v 0 ys h.2 (λ j c. least j (among_more j y ys c)) (eqb-true y v q) (omega arith))
      (λ q. let w = without_length v ys (sym (among_there v y ys q) ∙ a) in absurd (omega arith))
  without_least b v (suc n) (y ∷ ys) h a least e =
      by_test (eqb y v)
      (λ q. without_here v y ys q ∙ alone y v (suc n) ys h.2 (λ j c. least j (among_more j y ys c)) (eqb-true y v q) (omega arith))
      (λ q. without_there v y ys q
      ∙ ap (λ (r : List ℕ). y ∷ r) (without_least (key y) v n ys h.2 (sym (among_there v y ys q) ∙ a) (λ j c. least j (among_more j y ys c)) (omega arith)))

-- other tests and keys that agree on the list
pub falling_keep : (ok such : ℕ → Type 0) (key new : ℕ → ℕ) (b : ℕ) (l : List ℕ) → ((j : ℕ) → among l j ≡ true → ok j → such j) → ((j : ℕ) → among l j ≡ true → new j ≡ key j)
    → Falling ok key b l → Falling such new b l
unfolding Falling
falling_keep ok such key new b [] f g h = tt
falling_keep ok such key new b (y ∷ ys) f g h =
    let e = g y (among_head y ys) in
    let n = h.1 in (
      f y (among_head y ys) h.0,
      omega arith,
      rw e (falling_keep ok such key new (key y) ys (λ j a. f j (among_more j y ys a)) (λ j a. g j (among_more j y ys a)) h.2),
    )

-- one more in front, and none
pub falling_more : (ok : ℕ → Type 0) (key : ℕ → ℕ) (b i : ℕ) (l : List ℕ) → ok i → key i < b → Falling ok key (key i) l → Falling ok key b (i ∷ l)
unfolding Falling
falling_more ok key b i l a m h = (a, m, h)

pub falling_none : (ok : ℕ → Type 0) (key : ℕ → ℕ) (b : ℕ) → Falling ok key b []
unfolding Falling
falling_none ok key b = tt

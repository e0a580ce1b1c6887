-- The order on fractions of positive denominator, and the order of frames by value and then frame number.
use mathlib.Core.Path.{◌≡◌, refl, sym, ◌∙◌}
use mathlib.Core.Bool.{Bool, true, false, false≢true, not, ◌&&◌, ◌||◌}
use mathlib.Core.List.{List}
use mathlib.Core.Logic.{◌≢◌, ◌⊎◌, inl, inr}
use Prim.Native.Nat.{ℕ, zero, suc, ◌+◌, ◌*◌, ◌≤◌, ◌<◌}
use native.Mathlib.Nat.{lt_trans, mul-pos, mul-le-mul_left, mul-lt-mul_of_pos_left, lt_of_mul-lt-mul_left}
use native.Mathlib.Omega.{arith}
use lib.ListN.{get_or}
use lib.Dec.{ltb}
use borrow.Author.Tests.{ltb-true, ltb-false, lt-ltb, le-ltb}
use Rattle.worth.specs.Value.{age_of, part_of, less_fraction, worth_of, value_of, ahead}
use Rattle.worth.specs.declared.Fraction.{Fraction}
use Rattle.worth.proofs.Sizes.{greater_keeps, part_keeps}

-- a fraction that has a value
abbrev pub Proper : Fraction → Type 0
Proper a = 0 < a.den

pub age_positive : (epoch t : ℕ) → 0 < age_of epoch t
age_positive epoch t = omega arith

pub part_proper : (j age : ℕ) → 0 < age → Proper (part_of j age)
part_proper j age h = part_keeps Proper j age (omega arith) h

pub worth_proper : (a : List ℕ) (at n epoch : ℕ) → Proper (worth_of a at n epoch)
unfolding worth_of
worth_proper a at zero epoch = omega arith
worth_proper a at (suc n) epoch =
    let age = age_of epoch (get_or a (at + n) 0) in
    greater_keeps Proper (worth_of a at n epoch) (part_of n age)
    (worth_proper a at n epoch)
    (part_proper n age (age_positive epoch (get_or a (at + n) 0)))

pub value_proper : (access write : Fraction) (weight : ℕ) → Proper access → Proper write → Proper (value_of access write weight)
unfolding value_of
value_proper access write weight p q = mul-pos p q

-- ---- the test as an inequality of products, and back

less_is : (a b : Fraction) → a.num * b.den < b.num * a.den → less_fraction a b ≡ true
unfolding less_fraction
less_is a b h = lt-ltb (a.num * b.den) (b.num * a.den) h

least_is : (a b : Fraction) → b.num * a.den ≤ a.num * b.den → less_fraction a b ≡ false
unfolding less_fraction
least_is a b h = le-ltb (a.num * b.den) (b.num * a.den) h

less_told : (a b : Fraction) → less_fraction a b ≡ true → a.num * b.den < b.num * a.den
unfolding less_fraction
less_told a b h = ltb-true (a.num * b.den) (b.num * a.den) h

least_told : (a b : Fraction) → less_fraction a b ≡ false → b.num * a.den ≤ a.num * b.den
unfolding less_fraction
least_told a b h = ltb-false (a.num * b.den) (b.num * a.den) h

-- ---- an order

pub less_irrefl : (a : Fraction) → less_fraction a a ≡ false
less_irrefl a = least_is a a (omega arith)

pub less_asym : (a b : Fraction) → less_fraction a b ≡ true → less_fraction b a ≡ false
less_asym a b h = let l = less_told a b h in least_is b a (omega arith)

-- a < c and b is not below c: so a < b
pub less_weak : (a b c : Fraction) → Proper b → less_fraction a c ≡ true → less_fraction b c ≡ false → less_fraction a b ≡ true
less_weak a b c p h k =
    let l = mul-lt-mul_of_pos_left (less_told a c h) p in
    let m = mul-le-mul_left a.den (least_told b c k) in
    less_is a b (lt_of_mul-lt-mul_left c.den (omega arith))

-- b < c and b is not below a: so a < c
pub less_under : (a b c : Fraction) → Proper a → less_fraction b c ≡ true → less_fraction b a ≡ false → less_fraction a c ≡ true
less_under a b c p h k =
    let l = mul-lt-mul_of_pos_left (less_told b c h) p in
    let m = mul-le-mul_left c.den (least_told b a k) in
    less_is a c (lt_of_mul-lt-mul_left b.den (omega arith))

pub less_trans : (a b c : Fraction) → Proper a → less_fraction a b ≡ true → less_fraction b c ≡ true → less_fraction a c ≡ true
less_trans a b c p h k = less_under a b c p k (less_asym a b h)

-- c is not below b, b not below a: so c is not below a
pub least_trans : (a b c : Fraction) → Proper b → less_fraction b a ≡ false → less_fraction c b ≡ false → less_fraction c a ≡ false
least_trans a b c p h k = go (less_fraction c a) refl
  where
    go : (t : Bool) → less_fraction c a ≡ t → t ≡ false
    go false e = refl
    go true e = sym (less_weak c b a p e h) ∙ k

apart : (i j : ℕ) → i ≢ j → (i < j) ⊎ (j < i)
apart i j n = go (ltb i j) refl
  where
    go : (t : Bool) → ltb i j ≡ t → (i < j) ⊎ (j < i)
    go true e = inl (ltb-true i j e)
    go false e = let l = ltb-false i j e in inr (omega arith)

-- ---- by value, and then by number

-- what `ahead` tells: a lower value, or one that is not higher and a lower number
abbrev Ahead : (ℕ → Fraction) → ℕ → ℕ → Type 0
Ahead v i j = (less_fraction (v i) (v j) ≡ true) ⊎ ((less_fraction (v j) (v i) ≡ false) × (i < j))

told : (s t u : Bool) → (s || (not t && u)) ≡ true → (s ≡ true) ⊎ ((t ≡ false) × (u ≡ true))
told true t u h = inl refl
told false true u h = absurd (false≢true h)
told false false u h = inr (refl, h)

ahead_told : (v : ℕ → Fraction) (i j : ℕ) → ahead v i j ≡ true → Ahead v i j
ahead_told v i j h = go (told (less_fraction (v i) (v j)) (less_fraction (v j) (v i)) (ltb i j) h)
  where
    go : (less_fraction (v i) (v j) ≡ true) ⊎ ((less_fraction (v j) (v i) ≡ false) × (ltb i j ≡ true)) → Ahead v i j
    go (inl h) = inl h
    go (inr h) = inr (h.0, ltb-true i j h.1)

lower : (v : ℕ → Fraction) (i j : ℕ) → less_fraction (v i) (v j) ≡ true → ahead v i j ≡ true
lower v i j h = rw h

level : (v : ℕ → Fraction) (i j : ℕ) → less_fraction (v j) (v i) ≡ false → i < j → ahead v i j ≡ true
level v i j h l = go (less_fraction (v i) (v j)) (less_fraction (v j) (v i)) (ltb i j) h (lt-ltb i j l)
  where
    go : (s t u : Bool) → t ≡ false → u ≡ true → (s || (not t && u)) ≡ true
    go true t u h k = refl
    go false t u h k = rw (h, k)

pub ahead_irrefl : (v : ℕ → Fraction) (i : ℕ) → ahead v i i ≡ false
ahead_irrefl v i = rw (less_irrefl (v i), le-ltb i i (omega arith))

pub ahead_trans : (v : ℕ → Fraction) → ((i : ℕ) → 0 < (v i).den) → (i j k : ℕ)
    → ahead v i j ≡ true → ahead v j k ≡ true → ahead v i k ≡ true
ahead_trans v p i j k h l = go (ahead_told v i j h) (ahead_told v j k l)
  where
    go : Ahead v i j → Ahead v j k → ahead v i k ≡ true
    go (inl h) (inl l) = lower v i k (less_trans (v i) (v j) (v k) (p i) h l)
    go (inl h) (inr l) = lower v i k (less_weak (v i) (v k) (v j) (p k) h l.0)
    go (inr h) (inl l) = lower v i k (less_under (v i) (v j) (v k) (p i) l h.0)
    go (inr h) (inr l) = level v i k (least_trans (v i) (v j) (v k) (p j) h.0 l.0) (lt_trans h.1 l.1)

pub ahead_total : (v : ℕ → Fraction) (i j : ℕ) → i ≢ j → (ahead v i j ≡ true) ⊎ (ahead v j i ≡ true)
ahead_total v i j n = go (less_fraction (v i) (v j)) (less_fraction (v j) (v i)) refl refl
  where
    by_number : less_fraction (v i) (v j) ≡ false → less_fraction (v j) (v i) ≡ false → (i < j) ⊎ (j < i)
        → (ahead v i j ≡ true) ⊎ (ahead v j i ≡ true)
    by_number e f (inl l) = inl (level v i j f l)
    by_number e f (inr l) = inr (level v j i e l)

    go : (s t : Bool) → less_fraction (v i) (v j) ≡ s → less_fraction (v j) (v i) ≡ t
        → (ahead v i j ≡ true) ⊎ (ahead v j i ≡ true)
    go true t e f = inl (lower v i j e)
    go false true e f = inr (lower v j i f)
    go false false e f = by_number e f (apart i j n)

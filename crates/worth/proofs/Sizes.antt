-- Bounds: with now within the limit of references, up to 8 entries in a log and a weight of at most 16, every product fits 64 bits.
use mathlib.Core.Path.{◌≡◌, sym, ap, ◌∙◌}
use mathlib.Core.List.{List}
use Prim.Native.Nat.{ℕ, zero, suc, ◌+◌, ◌-◌, ◌*◌, ◌^◌, ◌≤◌, ◌<◌}
use native.Mathlib.Nat.{mul-le-mul}
use native.Mathlib.Numerals.{add-one}
use native.Mathlib.Omega.{arith}
use lib.ListN.{length, get_or, take, drop, length-drop}
use lib.Seq.{length-take-le, get_or-take, get_or-drop}
use lib.Dec.{eqb}
use Rattle.search.proofs.Every.{pick_ind}
use Rattle.worth.specs.Value.{fraction, age_of, part_of, less_fraction, greater_of, worth_of, value_of}
use Rattle.worth.specs.Sizes.{worth_num, worth_den, weight_limit, value_num, value_den, Small, WorthSmall}
use Rattle.limit.specs.Limits.{reference_limit}
use Rattle.worth.specs.declared.Fraction.{Fraction}

-- what holds of both holds of the greater
pub greater_keeps : (P : Fraction → Type 0) (a b : Fraction) → P a → P b → P (greater_of a b)
unfolding greater_of
greater_keeps P a b p q = pick_ind P (less_fraction a b) b a (λ _. q) (λ _. p)

-- what holds of a first part and of a later one holds of a part
pub part_keeps : (P : Fraction → Type 0) (j age : ℕ) → P (fraction 1 (10 * age)) → P (fraction (j + 1) age) → P (part_of j age)
part_keeps P j age p q = pick_ind P (eqb j 0) (fraction 1 (10 * age)) (fraction (j + 1) age) (λ _. p) (λ _. q)

-- one entry more
pub worth_more : (a : List ℕ) (at n epoch : ℕ)
    → worth_of a at (n + 1) epoch ≡ greater_of (worth_of a at n epoch) (part_of n (age_of epoch (get_or a (at + n) 0)))
unfolding worth_of
worth_more a at n epoch = ap (λ (m : ℕ). worth_of a at m epoch) (add-one n)

-- a turn of the loop over a log
pub worth_turn : (a : List ℕ) (at n epoch age : ℕ) (best part next : Fraction)
    → next ≡ greater_of best part → best ≡ worth_of a at n epoch → part ≡ part_of n age
    → age ≡ age_of epoch (get_or a (at + n) 0) → next ≡ worth_of a at (n + 1) epoch
worth_turn a at n epoch age best part next e b p g = rw (e, b, p, g) (sym (worth_more a at n epoch))

-- the j-th entry of a log that is a part of a list
pub entry_at : (a : List ℕ) (at len j : ℕ) → at + len ≤ length a → j < length (take (at + len - at) (drop at a))
    → (j < len) × (get_or (take (at + len - at) (drop at a)) j 0 ≡ get_or a (at + j) 0)
entry_at a at len j h l =
    let k : at + len - at ≡ len = omega arith in
    let few : len ≤ length (drop at a) = simp length-drop (omega arith) in
    let n = length-take-le len (drop at a) few in
    let here : j < len = let m = rw k at l in omega arith in
    (here, rw k (get_or-take len (drop at a) j 0 here ∙ get_or-drop at a j 0))

-- the whole log
pub log_length : (a : List ℕ) (at len : ℕ) → at + len ≤ length a → length (take (at + len - at) (drop at a)) ≡ len
log_length a at len h =
    let k : at + len - at ≡ len = omega arith in
    let few : len ≤ length (drop at a) = simp length-drop (omega arith) in
    rw k (length-take-le len (drop at a) few)

-- ---- comparing

pub cross : (a b : Fraction) → Small a → Small b → a.num * b.den ≤ value_num * value_den
cross a b s t = mul-le-mul s.num t.den

pub cross_fits : value_num * value_den < 2 ^ 64
cross_fits = omega arith

pub small : (a : Fraction) → WorthSmall a → Small a
small a s = let n = s.num in let d = s.den in record { num = omega arith; den = omega arith }

-- ---- parts and worths

pub age_small : (epoch t : ℕ) → epoch ≤ reference_limit → age_of epoch t ≤ reference_limit
age_small epoch t h = omega arith

pub part_small : (j age : ℕ) → j < worth_num → age ≤ reference_limit → WorthSmall (part_of j age)
part_small j age l h =
    part_keeps WorthSmall j age
    (record { num = omega arith; den = omega arith })
    (record { num = omega arith; den = omega arith })

pub worth_small : (a : List ℕ) (at n epoch : ℕ) → n ≤ worth_num → epoch ≤ reference_limit → WorthSmall (worth_of a at n epoch)
unfolding worth_of
worth_small a at zero epoch l h = record { num = omega arith; den = omega arith }
worth_small a at (suc n) epoch l h =
    let age = age_of epoch (get_or a (at + n) 0) in
    greater_keeps WorthSmall (worth_of a at n epoch) (part_of n age)
    (worth_small a at n epoch (omega arith) h)
    (part_small n age (omega arith) (age_small epoch (get_or a (at + n) 0) h))

-- ---- values

-- the products of a value
pub record Sizes (access write : Fraction) (weight : ℕ) : Type 0 where
  pub first : access.num * write.den ≤ worth_num * worth_den
  pub weighed : weight * write.num ≤ weight_limit * worth_num
  pub second : weight * write.num * access.den ≤ weight_limit * worth_num * worth_den
  pub den : access.den * write.den ≤ value_den

pub value_sizes : (access write : Fraction) (weight : ℕ)
    → WorthSmall access → WorthSmall write → weight ≤ weight_limit → Sizes access write weight
value_sizes access write weight s t h = record {
  first = mul-le-mul s.num t.den;
  weighed = mul-le-mul h t.num;
  second = mul-le-mul (mul-le-mul h t.num) s.den;
  den = mul-le-mul s.den t.den;
}

pub value_small : (access write : Fraction) (weight : ℕ)
    → WorthSmall access → WorthSmall write → weight ≤ weight_limit → Small (value_of access write weight)
unfolding value_of
value_small access write weight s t h =
    let z = value_sizes access write weight s t h in
    record { num = omega arith; den = omega arith }

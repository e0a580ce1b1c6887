-- Laws of the least number below a bound that passes a test: one search for every rule.
use mathlib.Core.Path.{◌≡◌, refl, ap, sym, subst, ◌∙◌}
use mathlib.Core.Bool.{Bool, true, false, true≢false}
use mathlib.Core.Logic.{⊎_elim}
use lib.Dec.{ltb}
use borrow.Author.Tests.{ltb-true, ltb-false, lt-ltb, le-ltb}
use Prim.Native.Nat.{ℕ, zero, suc, ◌+◌, ◌-◌, ◌≤◌, ◌<◌}
use native.Mathlib.Omega.{arith}
use native.Mathlib.Numerals.{add-one}
use native.Mathlib.Decide.{ℕ_discrete}
use native.Mathlib.Nat.{zero-add, suc-add, not-suc-le-zero, eq-or-lt_of_le, le_of_suc-le-suc}
use Rattle.std.specs.Prelude.{Option, Some, None}
use Rattle.search.specs.Search.{pick, better, offer, least_below, never}

-- Laws of `least_below`.

module _ (ok : ℕ → Bool) (less : ℕ → ℕ → Bool) where
  pub least_zero : least_below ok less 0 ≡ None
  unfolding least_below
  least_zero = refl

  pub least_suc : (n : ℕ) → least_below ok less (suc n) ≡ offer ok less n (least_below ok less n)
  unfolding least_below
  least_suc n = refl

  -- the same at the code's n + 1
  pub least_next : (n : ℕ) → least_below ok less (n + 1) ≡ offer ok less n (least_below ok less n)
  least_next n = ap (least_below ok less) (add-one n) ∙ least_suc n

  -- one step, by the tests
  pub least_skip : (n : ℕ) → ok n ≡ false → least_below ok less (n + 1) ≡ least_below ok less n
  least_skip n e = least_next n ∙ rw e

  pub least_first : (n : ℕ) → ok n ≡ true → least_below ok less n ≡ None → least_below ok less (n + 1) ≡ Some n
  least_first n e h = least_next n ∙ rw (e, h)

  pub least_beat : (n b : ℕ) → ok n ≡ true → least_below ok less n ≡ Some b → less n b ≡ true → least_below ok less (n + 1) ≡ Some n
  least_beat n b e h l = least_next n ∙ rw (e, h, l)

  pub least_keep : (n b : ℕ) → less n b ≡ false → least_below ok less n ≡ Some b → least_below ok less (n + 1) ≡ Some b
  least_keep n b l h = least_next n ∙ go (ok n)
    where
      go : (t : Bool) → pick t (better less n (least_below ok less n)) (least_below ok less n) ≡ Some b
      go true = rw (h, l)
      go false = h

-- what was found first stays found
pub first_stays : (ok : ℕ → Bool) (i k m : ℕ) → least_below ok never i ≡ Some k → least_below ok never (m + i) ≡ Some k
first_stays ok i k zero h = ap (least_below ok never) (zero-add i) ∙ h
first_stays ok i k (suc m) h = ap (least_below ok never) (suc-add m i ∙ sym (add-one (m + i))) ∙ least_keep ok never (m + i) k refl (first_stays ok i k m h)

pub first_found : (ok : ℕ → Bool) (n i : ℕ) → i < n → least_below ok never i ≡ None → ok i ≡ true → least_below ok never n ≡ Some i
first_found ok n i l h e =
    let whole : n - (i + 1) + (i + 1) ≡ n = omega arith in
    ap (least_below ok never) (sym whole) ∙ first_stays ok (i + 1) i (n - (i + 1)) (least_first ok never i e h)

-- taking a step apart, once for all laws below
module _ (P : Option ℕ → Type 0) where
  better_cases : (less : ℕ → ℕ → Bool) (n : ℕ) (prev : Option ℕ) → (prev ≡ None → P (Some n)) → ((b : ℕ) → prev ≡ Some b → less n b ≡ true → P (Some n)) → ((b : ℕ) → prev ≡ Some b → less n b ≡ false → P (Some b)) → P (better less n prev)
  better_cases less n None f g h = f refl
  better_cases less n (Some b) f g h = go (less n b) refl
    where
      go : (t : Bool) → less n b ≡ t → P (pick t (Some n) (Some b))
      go true e = g b refl e
      go false e = h b refl e

  pub offer_cases : (ok : ℕ → Bool) (less : ℕ → ℕ → Bool) (n : ℕ) (prev : Option ℕ)
      → (ok n ≡ false → P prev)
      → (ok n ≡ true → prev ≡ None → P (Some n))
      → ((b : ℕ) → ok n ≡ true → prev ≡ Some b → less n b ≡ true → P (Some n))
      → ((b : ℕ) → ok n ≡ true → prev ≡ Some b → less n b ≡ false → P (Some b))
      → P (offer ok less n prev)
  offer_cases ok less n prev skip first beat keep = go (ok n) refl
    where
      go : (t : Bool) → ok n ≡ t → P (pick t (better less n prev) prev)
      go true e = better_cases less n prev (first e) (λ b. beat b e) (λ b. keep b e)
      go false e = skip e

-- no answer is both a number and none, and no test both passes and fails
pub one_or_none : (i : ℕ) → Some i ≡ None → ⊥
one_or_none i e = let z : ◌≡◌ {A = ℕ} 0 1 = cc in omega arith

pub not_both : (b : Bool) → b ≡ true → b ≡ false → ⊥
not_both b p q = true≢false (sym p ∙ q)

-- what is found lies below the bound and passes the test
pub least_sound : (ok : ℕ → Bool) (less : ℕ → ℕ → Bool) (n i : ℕ) → least_below ok less n ≡ Some i → (i < n) × (ok i ≡ true)
least_sound ok less zero i h = absurd (one_or_none i (sym h ∙ least_zero ok less))
least_sound ok less (suc n) i h =
    offer_cases (λ r. r ≡ Some i → (i < suc n) × (ok i ≡ true)) ok less n (least_below ok less n)
    (λ _ e. let q = least_sound ok less n i e in (omega arith, q.1))
    (λ t _ e. let z : n ≡ i = cc in (omega arith, rw z at t))
    (λ b t _ _ e. let z : n ≡ i = cc in (omega arith, rw z at t))
    (λ b t p _ e. let z : b ≡ i = cc in let q = least_sound ok less n i (p ∙ ap Some z) in (omega arith, q.1))
    (sym (least_suc ok less n) ∙ h)

-- an index below suc n is n, or below n
pub last_or_below {ℓ} : {P : Type ℓ} (j n : ℕ) → j < suc n → (j ≡ n → P) → (j < n → P) → P
last_or_below j n l f g = ⊎_elim f g (eq-or-lt_of_le (le_of_suc-le-suc l))

-- none is found only where none passes, and where none passes none is found
pub least_none : (ok : ℕ → Bool) (less : ℕ → ℕ → Bool) (n j : ℕ) → least_below ok less n ≡ None → j < n → ok j ≡ false
least_none ok less zero j h l = absurd (not-suc-le-zero l)
least_none ok less (suc n) j h l =
    offer_cases (λ r. r ≡ None → ok j ≡ false) ok less n (least_below ok less n)
    (λ u e. last_or_below j n l (λ q. rw q u) (λ q. least_none ok less n j e q))
    (λ u p e. cc)
    (λ b u p v e. cc)
    (λ b u p v e. cc)
    (sym (least_suc ok less n) ∙ h)

pub least_none_of : (ok : ℕ → Bool) (less : ℕ → ℕ → Bool) (n : ℕ) → ((j : ℕ) → j < n → ok j ≡ false) → least_below ok less n ≡ None
least_none_of ok less zero f = least_zero ok less
least_none_of ok less (suc n) f = least_suc ok less n ∙ rw (f n (omega arith)) (least_none_of ok less n (λ j l. f j (omega arith)))

-- where none from n on passes, looking further finds nothing else
pub least_rest : (ok : ℕ → Bool) (less : ℕ → ℕ → Bool) (n m : ℕ) → n ≤ m → ((j : ℕ) → n ≤ j → j < m → ok j ≡ false) → least_below ok less m ≡ least_below ok less n
least_rest ok less n zero l f = ap (least_below ok less) (omega arith)
least_rest ok less n (suc m) l f = elim (ℕ_discrete n (suc m)) [
  | yes e ↦ ap (least_below ok less) (sym e)
  | no e ↦ ap (least_below ok less) (sym (add-one m)) ∙ least_skip ok less m (f m (omega (arith, e)) (omega arith)) ∙ least_rest ok less n m (omega (arith, e)) (λ j a b. f j a (omega arith))
]

-- tests that agree below the bound, and orders that agree on what passes, find the same
pub least_cong_on : (ok ok' : ℕ → Bool) (less less' : ℕ → ℕ → Bool) (n : ℕ)
    → ((j : ℕ) → j < n → ok j ≡ ok' j)
    → ((i j : ℕ) → i < n → j < n → ok' i ≡ true → ok' j ≡ true → less i j ≡ less' i j)
    → least_below ok less n ≡ least_below ok' less' n
least_cong_on ok ok' less less' zero f g = least_zero ok less ∙ sym (least_zero ok' less')
least_cong_on ok ok' less less' (suc n) f g =
    least_suc ok less n
    ∙ ap (offer ok less n) (least_cong_on ok ok' less less' n (λ j l. f j (omega arith)) (λ i j k l. g i j (omega arith) (omega arith)))
    ∙ one (least_below ok' less' n) (ok' n) refl refl
    ∙ sym (least_suc ok' less' n)
  where
    one : (r : Option ℕ) (t : Bool) → least_below ok' less' n ≡ r → ok' n ≡ t → offer ok less n r ≡ offer ok' less' n r
    one r false e q = rw (f n (omega arith), q)
    one None true e q = rw (f n (omega arith))
    one (Some b) true e q = let s = least_sound ok' less' n b e in rw (f n (omega arith), g n b (omega arith) (omega arith) q s.1)

pub least_cong : (ok ok' : ℕ → Bool) (less less' : ℕ → ℕ → Bool) (n : ℕ)
    → ((j : ℕ) → j < n → ok j ≡ ok' j)
    → ((i j : ℕ) → i < n → j < n → less i j ≡ less' i j)
    → least_below ok less n ≡ least_below ok' less' n
least_cong ok ok' less less' n f g = least_cong_on ok ok' less less' n f (λ i j k l _ _. g i j k l)

-- what an order on indices has to be for the found one to be least
pub record Order (less : ℕ → ℕ → Bool) : Type 0 where
  pub asym : (a b : ℕ) → less a b ≡ true → less b a ≡ false
  pub weak : (a b c : ℕ) → less a c ≡ true → less b c ≡ false → less a b ≡ true

-- an order by a number of each index is one
pub by_key : (key : ℕ → ℕ) → Order (λ a b. ltb (key a) (key b))
by_key key = record {
  asym = λ a b h. let l = ltb-true (key a) (key b) h in le-ltb (key b) (key a) (omega arith);
  weak = λ a b c h k. let l = ltb-true (key a) (key c) h in let m = ltb-false (key b) (key c) k in lt-ltb (key a) (key b) (omega arith);
}

-- nothing is less than itself
pub irrefl : (less : ℕ → ℕ → Bool) → Order less → (a : ℕ) → less a a ≡ false
irrefl less ord a = go (less a a) refl
  where
    go : (t : Bool) → less a a ≡ t → t ≡ false
    go true e = sym e ∙ ord.asym a a e
    go false e = refl

module _ (ok : ℕ → Bool) (less : ℕ → ℕ → Bool) (ord : Order less) where
  -- nothing that passes is less than what is found
  pub least_least : (n i j : ℕ) → least_below ok less n ≡ Some i → j < n → ok j ≡ true → less j i ≡ false
  least_least zero i j h l t = absurd (not-suc-le-zero l)
  least_least (suc n) i j h l t =
      offer_cases (λ r. r ≡ Some i → less j i ≡ false) ok less n (least_below ok less n)
      (λ u e. last_or_below j n l (λ q. absurd (not_both (ok n) (rw q at t) u)) (λ q. least_least n i j e q t))
      (λ u p e. let z : n ≡ i = cc in
      last_or_below j n l (λ q. rw (q, z) (irrefl less ord i)) (λ q. absurd (not_both (ok j) t (least_none ok less n j p q))))
      (λ b u p v e. let z : n ≡ i = cc in
      last_or_below j n l (λ q. rw (q, z) (irrefl less ord i)) (λ q. subst (λ (x : ℕ). less j x ≡ false) z (beaten n b j v (least_least n b j p q t))))
      (λ b u p v e. let z : b ≡ i = cc in
      last_or_below j n l (λ q. rw (q, ← z) v) (λ q. subst (λ (x : ℕ). less j x ≡ false) z (least_least n b j p q t)))
      (sym (least_suc ok less n) ∙ h)
    where
      beaten : (n b j : ℕ) → less n b ≡ true → less j b ≡ false → less j n ≡ false
      beaten n b j v w = ord.asym n j (ord.weak n j b v w)

  -- on a tie the lowest is found: a lower number that passes is greater
  pub least_lowest : (n i j : ℕ) → least_below ok less n ≡ Some i → j < i → ok j ≡ true → less i j ≡ true
  least_lowest zero i j h l t = absurd (not-suc-le-zero (let q = least_sound ok less zero i h in q.0))
  least_lowest (suc n) i j h l t =
      offer_cases (λ r. r ≡ Some i → less i j ≡ true) ok less n (least_below ok less n)
      (λ u e. least_lowest n i j e l t)
      (λ u p e. let z : n ≡ i = cc in absurd (not_both (ok j) t (least_none ok less n j p (omega arith))))
      (λ b u p v e. let z : n ≡ i = cc in subst (λ (x : ℕ). less x j ≡ true) z (ord.weak n j b v (least_least n b j p (omega arith) t)))
      (λ b u p v e. let z : b ≡ i = cc in least_lowest n i j (p ∙ ap Some z) l t)
      (sym (least_suc ok less n) ∙ h)

-- no number is less than another: that is an order too, and the lowest that passes is found
pub never_order : Order never
never_order = record { asym = λ a b h. refl; weak = λ a b c h k. h }

pub first_lowest : (ok : ℕ → Bool) (n i j : ℕ) → least_below ok never n ≡ Some i → j < i → ok j ≡ false
first_lowest ok n i j h l = go (ok j) refl
  where
    go : (t : Bool) → ok j ≡ t → t ≡ false
    go true e = sym (least_lowest ok never never_order n i j h l e)
    go false e = refl

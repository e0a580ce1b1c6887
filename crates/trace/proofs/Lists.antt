-- Lists made one by one: what stands in them, and what a turn of a loop adds.
use mathlib.Core.Path.{◌≡◌, refl, sym, ◌∙◌}
use mathlib.Core.List.{List, [], ◌∷◌, ◌++◌}
use mathlib.Core.Bool.{true, ◌&&◌, and-true, and_assoc, and-eq-true_iff}
use mathlib.Core.Logic.{⊎_elim, ◌⊎◌, inl, inr}
use Prim.Native.Nat.{ℕ, zero, suc, ◌+◌, ◌-◌, ◌≤◌, ◌<◌}
use native.Mathlib.Nat.{zero-add, eq-or-lt_of_le, eq-zero-or-pos}
use native.Mathlib.Numerals.{add-one}
use native.Mathlib.Omega.{arith}
use lib.ListN.{length, get_or, set, length-append, get_or-append, get_or-eq_default}
use lib.Seq.{sets, get_or_at, ext_get_or}
use lib.Dec.{eqb}
use borrow.Author.Tests.{eqb-true, leb-true}
use Rattle.word.proofs.Laws.{sets_append}
use Rattle.search.proofs.Count.{one_few}
use Rattle.trace.specs.Layout.{up_to, is_write, writes_in, known_kind, known_kinds, all_zero}

-- ---- f 0, f 1, ..

pub length_up_to : (f : ℕ → ℕ) (n : ℕ) → length (up_to f n) ≡ n
length_up_to f zero = refl
length_up_to f (suc n) = length-append (up_to f n) (f n ∷ []) ∙ rw (length_up_to f n) (omega arith)

pub up_to_at : (f : ℕ → ℕ) (n i : ℕ) → i < n → get_or (up_to f n) i 0 ≡ f i
up_to_at f zero i l = absurd (omega arith)
up_to_at f (suc n) i l =
    let r : (i ≡ n) ⊎ (i < n) = eq-or-lt_of_le (omega arith) in
    ⊎_elim
    (λ e. rw e (get_or_at (up_to f n) (f n) [] 0 n (length_up_to f n)))
    (λ h. get_or-append (up_to f n) (f n ∷ []) 0 i (omega (arith, length_up_to f n)) ∙ up_to_at f n i h)
    r

pub up_to_lt : (f : ℕ → ℕ) (n m : ℕ) → 0 < m → ((i : ℕ) → i < n → f i < m) → (i : ℕ) → get_or (up_to f n) i 0 < m
up_to_lt f n m pos h i =
    let r : (n ≤ i) ⊎ (i < n) = ⊎_elim (λ e. inl (omega arith)) (λ l. inr (omega arith)) (eq-zero-or-pos (n - i)) in
    ⊎_elim
    (λ (ge : n ≤ i). rw (get_or-eq_default (up_to f n) 0 {n = i} (omega (arith, length_up_to f n))) pos)
    (λ (lt : i < n). rw (up_to_at f n i lt) (h i lt))
    r

-- a list is the numbers that stand in it
pub up_to_is : (f : ℕ → ℕ) (l : List ℕ) → ((i : ℕ) → i < length l → f i ≡ get_or l i 0) → up_to f (length l) ≡ l
up_to_is f l h =
    let n = length_up_to f (length l) in
    ext_get_or 0 (up_to f (length l)) l n (λ i lt. up_to_at f (length l) i (omega (arith, n)) ∙ h i (omega (arith, n)))

-- a lent list filled from the front, one store a turn
pub fill_more : (f : ℕ → ℕ) (l₀ l : List ℕ) (i v : ℕ) → l ≡ sets l₀ 0 (up_to f i) → v ≡ f i → set l i v ≡ sets l₀ 0 (up_to f (i + 1))
fill_more f l₀ l i v e h = rw (e, h, add-one, sets_append (up_to f i) (f i ∷ []) l₀ 0, length_up_to f i, zero-add i)

-- ---- kinds and zero fields, one more at the end

pub writes_snoc : (l : List ℕ) (k : ℕ) → writes_in (l ++ (k ∷ [])) ≡ writes_in l + is_write k
writes_snoc [] k = omega arith
writes_snoc (x ∷ l) k = rw (writes_snoc l k) (omega arith)

pub known_snoc : (l : List ℕ) (k : ℕ) → known_kinds (l ++ (k ∷ [])) ≡ (known_kinds l && known_kind k)
known_snoc [] k = and-true (known_kind k)
known_snoc (x ∷ l) k = rw (known_snoc l k) (sym (and_assoc (known_kind x) (known_kinds l) (known_kind k)))

pub zero_snoc : (l : List ℕ) (z : ℕ) → all_zero (l ++ (z ∷ [])) ≡ (all_zero l && eqb z 0)
zero_snoc [] z = and-true (eqb z 0)
zero_snoc (x ∷ l) z = rw (zero_snoc l z) (sym (and_assoc (eqb x 0) (all_zero l) (eqb z 0)))

-- what is known to be zero, below n
pub zero_at_lem : (f : ℕ → ℕ) (n : ℕ) → all_zero (up_to f n) ≡ true → (i : ℕ) → i < n → f i ≡ 0
zero_at_lem f zero h i l = absurd (omega arith)
zero_at_lem f (suc n) h i l =
    let b = (and-eq-true_iff (all_zero (up_to f n)) (eqb (f n) 0)).0 (sym (zero_snoc (up_to f n) (f n)) ∙ h) in
    let r : (i ≡ n) ⊎ (i < n) = eq-or-lt_of_le (omega arith) in
    ⊎_elim (λ e. rw e (eqb-true (f n) 0 b.1)) (λ k. zero_at_lem f n b.0 i k) r

pub all_zero_lem : (f : ℕ → ℕ) (n : ℕ) → ((i : ℕ) → i < n → f i ≡ 0) → all_zero (up_to f n) ≡ true
all_zero_lem f zero h = refl
all_zero_lem f (suc n) h =
    zero_snoc (up_to f n) (f n)
    ∙ rw (all_zero_lem f n (λ i l. h i (omega arith)), h n (omega arith))

pub writes_le : (l : List ℕ) → writes_in l ≤ length l
writes_le [] = omega arith
writes_le (k ∷ l) = omega (arith, writes_le l, one_few (eqb k 1))

-- a known kind is at most 3, and so is the 0 behind the list's end
pub known_le : (l : List ℕ) (i : ℕ) → known_kinds l ≡ true → get_or l i 0 ≤ 3
known_le [] i h = omega arith
known_le (k ∷ l) zero h = leb-true k 3 ((and-eq-true_iff (known_kind k) (known_kinds l)).0 h).0
known_le (k ∷ l) (suc i) h = known_le l i ((and-eq-true_iff (known_kind k) (known_kinds l)).0 h).1

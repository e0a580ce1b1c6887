-- Laws of the tally: counting rows one by one and all at once, and how far the counts can have risen.
use mathlib.Core.Path.{◌≡◌, refl, ap, sym, fun_ext}
use mathlib.Core.Bool.{Bool, true, false, and-false, and-eq-true_iff}
use Rattle.std.specs.Bool.{MatchBool}
use Rattle.std.specs.List.{AllWithin, HoldsAt}
use mathlib.Core.List.{List, [], ◌∷◌, ◌++◌}
use Prim.Native.Nat.{ℕ, zero, suc, ◌+◌, ◌≤◌, ◌<◌}
use native.Mathlib.Nat.{add-zero}
use native.Mathlib.Omega.{arith}
use lib.ListN.{length, get_or}
use lib.Dec.{leb}
use borrow.Author.Tests.{leb-true, le-leb, lt-leb}
use Rattle.search.specs.Search.{one_if}
use Rattle.search.proofs.Count.{one_few}
use Rattle.tally.specs.Rows.{is_hit, is_miss, is_eviction, is_batch, is_refused}
use Rattle.tally.specs.Tally.{numbers_of, tally_of, raises_of, raises_in, tally_limit, none_above, tally_within, counted_by, counted_rows}
use Rattle.tally.specs.ForCode.{word32, AtMost, sums, Within, Countable}
use Rattle.tally.specs.declared.Row.{Row}
use Rattle.tally.specs.declared.Tally.{Tally}

-- ---- the rows of a list

pub raises_snoc : (i : ℕ) (ws : List Row) (w : Row) (n : ℕ) → (n + raises_in i ws) + get_or (raises_of w) i 0 ≡ n + raises_in i (ws ++ (w ∷ []))
raises_snoc i [] w n = omega arith
raises_snoc i (v ∷ ws) w n = let h = raises_snoc i ws w (n + get_or (raises_of v) i 0) in omega arith

-- no row counted
pub counted_none : (t : Tally) → counted_rows t [] ≡ t
unfolding counted_rows
counted_none t = simp add-zero

-- one row more
pub counted_snoc : (t : Tally) (ws : List Row) (w : Row) → counted_by (counted_rows t ws) w ≡ counted_rows t (ws ++ (w ∷ []))
unfolding counted_by counted_rows
counted_snoc t ws w = ap tally_of (fun_ext (λ i. raises_snoc i ws w (get_or (numbers_of t) i 0)))

-- ---- bounds

-- no number of a list is above m, or one is
all_below : (m : ℕ) (l : List ℕ) → ((k : ℕ) → k < length l → get_or l k 0 ≤ m) → none_above m l ≡ true
all_below m [] h = refl
all_below m (n ∷ l) h = rw (le-leb n m (h 0 (omega arith))) (all_below m l (λ k lt. h (suc k) (omega arith)))

one_above : (m : ℕ) (l : List ℕ) (k : ℕ) → k < length l → m < get_or l k 0 → none_above m l ≡ false
one_above m [] k lt h = absurd (omega arith)
one_above m (n ∷ l) zero lt h = rw (lt-leb n m h)
one_above m (n ∷ l) (suc k) lt h = rw (one_above m l k (omega arith) h) (and-false (leb n m))

pub none_above_is : (m : ℕ) (l : List ℕ) (r : Bool) → MatchBool r (AllWithin (λ n. n ≤ m) l 0 (length l)) ((k : ℕ) × (k < length l) × HoldsAt (λ n. m < n) l k) → r ≡ none_above m l
none_above_is m l true h = sym (all_below m l (λ k lt. h k 0 (omega arith) lt))
none_above_is m l false h = sym (one_above m l h.0 h.1 (h.2 0))

-- what the test of a list tells
at_most : (m : ℕ) (l : List ℕ) → none_above m l ≡ true → AtMost m l
at_most m [] h = tt
at_most m (n ∷ l) h = let b = (and-eq-true_iff (leb n m) (none_above m l)).0 h in (leb-true n m b.0, at_most m l b.1)

-- a bound may be taken higher
at_most_more : (m n : ℕ) (l : List ℕ) → m ≤ n → AtMost m l → AtMost n l
at_most_more m n [] le b = tt
at_most_more m n (x ∷ l) le b = let h = b.0 in (omega arith, at_most_more m n l le b.1)

-- sums have the sum of the bounds
at_most_sums : (m n : ℕ) (k l : List ℕ) → AtMost m k → AtMost n l → AtMost (m + n) (sums k l)
at_most_sums m n [] l a b = tt
at_most_sums m n (x ∷ k) [] a b = tt
at_most_sums m n (x ∷ k) (y ∷ l) a b = let h = a.0 in let i = b.0 in (omega arith, at_most_sums m n k l a.1 b.1)

-- the numbers of a list have a bound
abbrev pub total : List ℕ → ℕ
total [] = 0
total (n ∷ l) = n + total l

at_most_total : (l : List ℕ) → AtMost (total l) l
at_most_total [] = tt
at_most_total (n ∷ l) = (omega arith, at_most_more (total l) (n + total l) l (omega arith) (at_most_total l))

-- what the test of a tally tells
pub within_bound : (t : Tally) → tally_within t ≡ true → Within t tally_limit
unfolding tally_within
within_bound t h = at_most tally_limit (numbers_of t) h

-- every tally has a bound
pub within_own : (t : Tally) → Within t (total (numbers_of t))
within_own t = at_most_total (numbers_of t)

pub within_more : (t : Tally) (m n : ℕ) → m ≤ n → Within t m → Within t n
within_more t m n l b = at_most_more m n (numbers_of t) l b

-- a row of at most 16 pages written raises no count by more than 16
raises_few : (w : Row) → w.batch ≤ 16 → AtMost 16 (raises_of w)
raises_few w l = (few (is_hit w), (few (is_miss w), (few (is_eviction w), (few (is_batch w), (l, (few (is_refused w), tt))))))
  where
    few : (such : Bool) → one_if such ≤ 16
    few such = let h = one_few such in omega arith

raised_few : (t : Tally) (w : Row) (m : ℕ) → Within t m → w.batch ≤ 16 → AtMost (m + 16) (sums (numbers_of t) (raises_of w))
raised_few t w m b l = at_most_sums m 16 (numbers_of t) (raises_of w) b (raises_few w l)

pub within_counted : (t : Tally) (w : Row) (m : ℕ) → Within t m → w.batch ≤ 16 → Within (counted_by t w) (m + 16)
unfolding counted_by
within_counted t w m b l = raised_few t w m b l

-- a tally so small has such a row counted without wrapping
pub within_countable : (t : Tally) (w : Row) (m : ℕ) → m + 16 ≤ word32 → Within t m → w.batch ≤ 16 → Countable t w
within_countable t w m le b l = at_most_more (m + 16) word32 (sums (numbers_of t) (raises_of w)) le (raised_few t w m b l)

-- The tally: six counts, and how rows raise them.
use Rattle.std.specs.Prelude.{ℕ, ◌+◌, Bool, true, ◌&&◌, List, [], ◌∷◌, get_or, leb}
use Rattle.search.specs.Search.{one_if}
use Rattle.tally.specs.declared.Row.{Row}
use Rattle.tally.specs.declared.Tally.{Tally}
use Rattle.tally.specs.Rows.{is_hit, is_miss, is_eviction, is_batch, is_refused}

-- "six counts: hits, misses, evictions, batches, pages written, refused": the numbers of a tally, in the order in which they go everywhere
abbrev pub numbers_of : Tally → List ℕ
numbers_of t = t.hits ∷ t.misses ∷ t.evictions ∷ t.batches ∷ t.written ∷ t.refused ∷ []

-- the tally with these numbers at the places of that order
abbrev pub tally_of : (ℕ → ℕ) → Tally
tally_of number = record { hits = number 0; misses = number 1; evictions = number 2; batches = number 3; written = number 4; refused = number 5 }

-- no step counted
abbrev pub zero_tally : Tally
zero_tally = tally_of (λ i. 0)

-- what a row adds to each count: 1 where it is such an outcome, to the pages written the batch length
abbrev pub raises_of : Row → List ℕ
raises_of w = one_if (is_hit w) ∷ one_if (is_miss w) ∷ one_if (is_eviction w) ∷ one_if (is_batch w) ∷ w.batch ∷ one_if (is_refused w) ∷ []

-- "raised in place by each step": each count by what the row adds
unfoldable pub counted_by : Tally → Row → Tally
counted_by t w = tally_of (λ i. get_or (numbers_of t) i 0 + get_or (raises_of w) i 0)

-- what the rows of a list add to the count at place i
abbrev pub raises_in : ℕ → List Row → ℕ
raises_in i [] = 0
raises_in i (w ∷ ws) = get_or (raises_of w) i 0 + raises_in i ws

-- the pages that the rows of a list wrote
abbrev pub pages_in : List Row → ℕ
pages_in ws = raises_in 4 ws

-- "each count is the number of such outcomes or written pages": a tally with the rows of a list counted
unfoldable pub counted_rows : Tally → List Row → Tally
counted_rows t ws = tally_of (λ i. get_or (numbers_of t) i 0 + raises_in i ws)

-- refusal 14 is given for "a count of the tally handed in above 4,000,000,000"
abbrev pub tally_limit : ℕ
tally_limit = 4000000000

-- no number of a list is above a limit
abbrev pub none_above : ℕ → List ℕ → Bool
none_above limit [] = true
none_above limit (n ∷ l) = leb n limit && none_above limit l

-- no count is above the limit
unfoldable pub tally_within : Tally → Bool
tally_within t = none_above tally_limit (numbers_of t)

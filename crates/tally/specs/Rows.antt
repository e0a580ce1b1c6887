-- Rows: what one step answers, as four numbers.
use Rattle.std.specs.Prelude.{ℕ, ◌+◌, Bool, ◌&&◌, List, [], ◌∷◌, eqb, leb}
use Rattle.tally.specs.declared.Row.{Row}

-- "a row is four numbers: outcome, frame, page that left, batch length"
abbrev pub row : ℕ → ℕ → ℕ → ℕ → Row
row outcome frame left batch = record { outcome = outcome; frame = frame; left = left; batch = batch }

-- "0 hit"
abbrev pub hit : ℕ
hit = 0

-- "1 miss in an unused frame"
abbrev pub miss_unused : ℕ
miss_unused = 1

-- "2 miss with clean victim"
abbrev pub miss_clean : ℕ
miss_clean = 2

-- "3 miss with dirty victim"
abbrev pub miss_dirty : ℕ
miss_dirty = 3

-- "4 unpinned"
abbrev pub unpin_done : ℕ
unpin_done = 4

-- "100 + r for refusal r"
abbrev pub refused_by : ℕ → ℕ
refused_by r = 100 + r

-- the row of a refused record: "numbers without a meaning are 0"
abbrev pub refused_row : ℕ → Row
refused_row r = row (refused_by r) 0 0 0

-- the four numbers of a row, in their order
abbrev pub row_numbers : Row → List ℕ
row_numbers w = w.outcome ∷ w.frame ∷ w.left ∷ w.batch ∷ []

-- a hit
abbrev pub is_hit : Row → Bool
is_hit w = eqb w.outcome hit

-- a miss, whichever frame it took
abbrev pub is_miss : Row → Bool
is_miss w = leb miss_unused w.outcome && leb w.outcome miss_dirty

-- a miss that made a page leave
abbrev pub is_eviction : Row → Bool
is_eviction w = leb miss_clean w.outcome && leb w.outcome miss_dirty

-- a miss that wrote a batch
abbrev pub is_batch : Row → Bool
is_batch w = eqb w.outcome miss_dirty

-- a refused record
abbrev pub is_refused : Row → Bool
is_refused w = leb (refused_by 0) w.outcome

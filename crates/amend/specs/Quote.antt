-- The table of the day: its sizes, and the numbers of a line.
use Rattle.std.specs.Prelude.{ℕ, ◌&&◌, ◌||◌, List, [], ◌∷◌, eqb, ltb}
use Rattle.search.specs.Search.{pick}
use Rattle.tally.specs.declared.Tally.{Tally}
use Rattle.wish.specs.declared.Wish.{Wish}
use Rattle.wish.specs.Wish.{wished_for}
use Rattle.amend.specs.Amend.{sheet_with}

-- 1, 2, 4, 8, 16, 32, 64, 128 and the trace's own frames
abbrev pub quote_sizes : ℕ → List ℕ
quote_sizes own = 1 ∷ 2 ∷ 4 ∷ 8 ∷ 16 ∷ 32 ∷ 64 ∷ 128 ∷ own ∷ []

-- a size where it is above the last one and below the best so far, 0 being none
unfoldable pub nearer_of : ℕ → ℕ → ℕ → ℕ
nearer_of last size best = pick (ltb last size && (eqb best 0 || ltb size best)) size best

-- the least of some sizes above the last one, or 0: rising, none twice
abbrev pub next_among : ℕ → List ℕ → ℕ
next_among last [] = 0
next_among last (size ∷ sizes) = nearer_of last size (next_among last sizes)

-- the next size of a quote
unfoldable pub next_size : ℕ → ℕ → ℕ
next_size own last = next_among last (quote_sizes own)

-- the counts of `bench --rule RULE --frames FRAMES`
abbrev pub quote_tally : List ℕ → Wish → ℕ → ℕ → Tally
quote_tally s w rule frames = (sheet_with s (wished_for (wished_for w 1 frames) 0 rule)).tally

-- the numbers of a line: misses and pages written, under LRU, generalised clock and WATT
unfoldable pub quote_line : List ℕ → Wish → ℕ → List ℕ
quote_line s w frames =
    (quote_tally s w 0 frames).misses ∷ (quote_tally s w 0 frames).written
    ∷ (quote_tally s w 1 frames).misses ∷ (quote_tally s w 1 frames).written
    ∷ (quote_tally s w 2 frames).misses ∷ (quote_tally s w 2 frames).written
    ∷ []

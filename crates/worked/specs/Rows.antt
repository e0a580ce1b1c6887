-- The rows that a replay put into a list of numbers, four each.
use Rattle.std.specs.Prelude.{ℕ, zero, suc, List, get_or, drop}
use Rattle.tally.specs.declared.Row.{Row}
use Rattle.tally.specs.Rows.{row}

-- row i of such a list
abbrev pub row_in : List ℕ → ℕ → Row
row_in l zero = row (get_or l 0 0) (get_or l 1 0) (get_or l 2 0) (get_or l 3 0)
row_in l (suc i) = row_in (drop 4 l) i

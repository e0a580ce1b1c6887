-- The scale of the curve's picture, in tenths of a millimetre; `most` is the misses with one frame.
use Rattle.std.specs.Prelude.{ℕ, zero, suc, ◌+◌, ◌*◌, ◌-◌, ◌/◌, max, List, [], ◌∷◌, leb, get_or}
use Rattle.search.specs.Search.{pick}

-- 1, 2, 5, 10, 20, 50, 100, ..: a power of ten, twice it and five times it, for so many powers
abbrev pub steps_from : ℕ → ℕ → List ℕ
steps_from zero ten = []
steps_from (suc n) ten = ten ∷ ten * 2 ∷ ten * 5 ∷ steps_from n (ten * 10)

-- up to 500,000,000, which is enough for every number of 4 bytes
abbrev pub steps : List ℕ
steps = steps_from 9 1

-- the first of some steps with 10 × S at least the most
abbrev pub first_enough : ℕ → List ℕ → ℕ
first_enough most [] = 1
first_enough most (s ∷ rest) = pick (leb most (10 * s)) s (first_enough most rest)

-- S, the step between two lines
unfoldable pub step_of : ℕ → ℕ
step_of most = first_enough most steps

-- T, the number of lines above 0: the most / S rounded up, but at least 1
unfoldable pub ticks_of : ℕ → ℕ
ticks_of most = max 1 ((most + (step_of most - 1)) / step_of most)

-- S × T, where the misses' axis ends
unfoldable pub top_of : ℕ → ℕ
top_of most = step_of most * ticks_of most

-- x(f) is 188 + 12 × f
abbrev pub x_of : ℕ → ℕ
x_of f = 188 + 12 * f

-- y(m) is 940 less 760 × m / (S × T) rounded down
unfoldable pub y_of : ℕ → ℕ → ℕ
y_of most m = 940 - 760 * m / top_of most

-- M(f), the misses with f frames: the list begins with those with one frame
abbrev pub misses_with : List ℕ → ℕ → ℕ
misses_with misses f = get_or misses (f - 1) 0

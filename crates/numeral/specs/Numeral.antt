-- Decimal numbers as text, in ASCII.
use Rattle.std.specs.Prelude.{ℕ, ◌+◌, ◌*◌, ◌-◌, min, Bool, true, ◌&&◌, Option, Some, None, List, [], ◌∷◌, leb, ltb, length}
use Rattle.search.specs.Search.{pick}

-- one past the greatest number of 4 bytes
abbrev pub number_limit : ℕ
number_limit = 4294967296

-- `0` to `9`
abbrev pub is_digit : ℕ → Bool
is_digit c = leb 48 c && leb c 57

-- every character of a text is a digit
abbrev pub all_digits : List ℕ → Bool
all_digits [] = true
all_digits (c ∷ s) = is_digit c && all_digits s

-- the number that digits make behind a number
abbrev pub value_after : ℕ → List ℕ → ℕ
value_after n [] = n
value_after n (c ∷ s) = value_after (n * 10 + (c - 48)) s

-- the number of a text of one or more digits; those that do not fit 4 bytes are not told apart
unfoldable pub numeral_of : List ℕ → Option ℕ
numeral_of s = pick (all_digits s && ltb 0 (length s)) (Some (min (value_after 0 s) number_limit)) None

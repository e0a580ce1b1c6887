-- What only the look through a text needs.
use Rattle.std.specs.Prelude.{ℕ, Option, Some, None}

-- the number of a bad line that was found, or 0
abbrev pub number_in : Option ℕ → ℕ
number_in None = 0
number_in (Some n) = n

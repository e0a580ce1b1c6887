-- The limit that the sizes of numbers follow from: of steps, epochs and fractions.
use Rattle.std.specs.Prelude.{ℕ}

-- the number of accepted references k is at most 50,000
abbrev pub reference_limit : ℕ
reference_limit = 50000

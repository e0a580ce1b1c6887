-- What the code asks of fractions, so that their products fit 64 bits.
use Rattle.std.specs.Prelude.{ℕ, ◌+◌, ◌*◌, ◌≤◌}
use Rattle.limit.specs.Limits.{reference_limit}
use Rattle.worth.specs.declared.Fraction.{Fraction}

-- the greatest numerator of a worth, that of the last entry of a full log; and the greatest denominator, that of a first part
abbrev pub worth_num : ℕ
worth_num = 8

abbrev pub worth_den : ℕ
worth_den = 10 * reference_limit

-- the greatest write weight
abbrev pub weight_limit : ℕ
weight_limit = 16

-- those of a value
abbrev pub value_num : ℕ
value_num = worth_num * worth_den + weight_limit * worth_num * worth_den

abbrev pub value_den : ℕ
value_den = worth_den * worth_den

-- "with k at most 50,000 two values compare exactly in 64-bit unsigned products": small enough for that
pub record Small (a : Fraction) : Type 0 where
  pub num : a.num ≤ value_num
  pub den : a.den ≤ value_den

-- as small as the worth of a log of up to 8 epochs within the limit
pub record WorthSmall (a : Fraction) : Type 0 where
  pub num : a.num ≤ worth_num
  pub den : a.den ≤ worth_den

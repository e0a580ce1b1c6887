-- Worked by hand: the fractions that once met, and a tie of parts.
use mathlib.Core.Path.{◌≡◌, refl}
use mathlib.Core.Bool.{true, false}
use mathlib.Core.List.{[], ◌∷◌}
use Rattle.worth.specs.Value.{fraction, less_fraction, greater_of, worth_of}

-- 2/35 is below 3/42, though both are 0 in whole numbers
pub exact : (less_fraction (fraction 2 35) (fraction 3 42) ≡ true) × (less_fraction (fraction 3 42) (fraction 2 35) ≡ false)
unfolding less_fraction
exact = (refl, refl)

-- times 40, 30, 20 at 50 have parts 1/100, 2/20, 3/30: the last two tie, and the one of lower i is kept
pub tied : worth_of (40 ∷ 30 ∷ 20 ∷ []) 0 3 50 ≡ fraction 2 20
unfolding worth_of greater_of less_fraction
tied = refl

-- What the functions of the code say of themselves. Who reads the rules passes this over.
use Rattle.std.specs.Prelude.{ℕ, ◌+◌, ◌≤◌, List, [], ◌∷◌}
use Rattle.tally.specs.declared.Row.{Row}
use Rattle.tally.specs.declared.Tally.{Tally}
use Rattle.tally.specs.Tally.{numbers_of, raises_of}

-- the greatest number of 32 bits
abbrev pub word32 : ℕ
word32 = 4294967295

-- each number of a list at most m
abbrev pub AtMost : ℕ → List ℕ → Type 0
AtMost m [] = Unit
AtMost m (n ∷ l) = (n ≤ m) × AtMost m l

-- the numbers of two lists added, place by place
abbrev pub sums : List ℕ → List ℕ → List ℕ
sums [] l = []
sums (a ∷ k) [] = []
sums (a ∷ k) (b ∷ l) = (a + b) ∷ sums k l

-- each count at most m
abbrev pub Within : Tally → ℕ → Type 0
Within t m = AtMost m (numbers_of t)

-- what counting a row asks: no count wraps 32 bits
abbrev pub Countable : Tally → Row → Type 0
Countable t w = AtMost word32 (sums (numbers_of t) (raises_of w))

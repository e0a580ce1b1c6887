-- Value, as exact fractions.
use Rattle.std.specs.Prelude.{ℕ, zero, suc, ◌+◌, ◌-◌, ◌*◌, max, Bool, not, ◌&&◌, ◌||◌, List, get_or, eqb, ltb}
use Rattle.search.specs.Search.{pick}
use Rattle.worth.specs.declared.Fraction.{Fraction}

-- num / den
abbrev pub fraction : ℕ → ℕ → Fraction
fraction num den = record { num = num; den = den }

-- "age is now − t, with 0 counted as 1"
abbrev pub age_of : ℕ → ℕ → ℕ
age_of epoch t = max (epoch - t) 1

-- "the i-th part is i / age, and the first is 1 / (10 × age)"; i is j + 1
abbrev pub part_of : ℕ → ℕ → Fraction
part_of j age = pick (eqb j 0) (fraction 1 (10 * age)) (fraction (j + 1) age)

-- page values are exact fractions: whether one is less than another, by cross products
unfoldable pub less_fraction : Fraction → Fraction → Bool
less_fraction a b = ltb (a.num * b.den) (b.num * a.den)

-- the greater of two; on a tie the first, which is the part of lower i
unfoldable pub greater_of : Fraction → Fraction → Fraction
greater_of a b = pick (less_fraction a b) b a

-- "a log's worth is the greatest part, 0 for an empty log"; the log is the n numbers of a from at
unfoldable pub worth_of : List ℕ → ℕ → ℕ → ℕ → Fraction
worth_of a at zero epoch = fraction 0 1
worth_of a at (suc n) epoch = greater_of (worth_of a at n epoch) (part_of n (age_of epoch (get_or a (at + n) 0)))

-- "value = access worth + write weight × write worth"
unfoldable pub value_of : Fraction → Fraction → ℕ → Fraction
value_of access write weight =
    fraction (access.num * write.den + weight * write.num * access.den) (access.den * write.den)

-- "of least value, the lowest frame number on a tie": whether frame i of value a comes before frame j of value b
abbrev pub is_ahead : Fraction → ℕ → Fraction → ℕ → Bool
is_ahead a i b j = less_fraction a b || (not (less_fraction b a) && ltb i j)

-- the same, v the frames' values
abbrev pub ahead : (ℕ → Fraction) → ℕ → ℕ → Bool
ahead v i j = is_ahead (v i) i (v j) j

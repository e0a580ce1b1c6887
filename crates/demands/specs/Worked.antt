-- Worked by hand: the dozen, as a single statement over a single list.
use Rattle.std.specs.Prelude.{ℕ, ◌*◌, ◌≤◌, ◌<◌, ◌≡◌, List, [], ◌∷◌}
use Rattle.word.specs.declared.Order.TheVariants.{High, Low}
use Rattle.word.specs.Number.{number_of}
use Rattle.worth.specs.declared.Fraction.{Fraction}
use Rattle.worth.specs.Value.{fraction, worth_of, value_of}
use Rattle.victim.specs.Watt.{draws}
use Rattle.tally.specs.Rows.{row}
use Rattle.worked.specs.Records.{read, write, pin, settings_of, lru, clock, replayed, shown}

-- "P1 times 42, 15, 8, 0 at now 50: worth 4/50"
abbrev pub P1 : Type 0
P1 = worth_of (42 ∷ 15 ∷ 8 ∷ 0 ∷ []) 0 4 50 ≡ fraction 4 50

-- "P2 one time 50 at 50: 1/10"
abbrev pub P2 : Type 0
P2 = worth_of (50 ∷ []) 0 1 50 ≡ fraction 1 10

-- "P3 times 50, 49 at 50: 2"
abbrev pub P3 : Type 0
P3 = worth_of (50 ∷ 49 ∷ []) 0 2 50 ≡ fraction 2 1

-- a fraction with a denominator is num / den, by cross products
abbrev pub IsFraction : Fraction → ℕ → ℕ → Type 0
IsFraction v num den = (0 < v.den) × (v.num * den ≡ num * v.den)

-- "P4 access 49 and write 49 at 50, weight 2: 3/10"
abbrev pub P4 : Type 0
P4 = IsFraction (value_of (worth_of (49 ∷ []) 0 1 50) (worth_of (49 ∷ []) 0 1 50) 2) 3 10

-- "P5 empty write log: 0"
abbrev pub P5 : Type 0
P5 = worth_of [] 0 0 50 ≡ fraction 0 1

-- "P6 f 4, seed 0, sample 3: draws name frames 1, 2, 3"
abbrev pub P6 : Type 0
P6 = draws 0 4 3 ≡ 1 ∷ 2 ∷ 3 ∷ []

-- "P7 clock, f 3, cap 2, reads 1 2 3 1 4: page 2 leaves frame 1, hand 2"; each replay by its rows, the pages written, and the hand
abbrev pub P7 : Type 0
P7 =
    shown (replayed (clock 3 2) (read 1 ∷ read 2 ∷ read 3 ∷ read 1 ∷ read 4 ∷ []))
    ≡ (row 1 0 0 0 ∷ row 1 1 0 0 ∷ row 1 2 0 0 ∷ row 0 0 0 0 ∷ row 2 1 2 0 ∷ [], [], 2)

-- "P8 then read 5: page 3 leaves"
abbrev pub P8 : Type 0
P8 =
    shown (replayed (clock 3 2) (read 1 ∷ read 2 ∷ read 3 ∷ read 1 ∷ read 4 ∷ read 5 ∷ []))
    ≡ (row 1 0 0 0 ∷ row 1 1 0 0 ∷ row 1 2 0 0 ∷ row 0 0 0 0 ∷ row 2 1 2 0 ∷ row 2 2 3 0 ∷ [], [], 0)

-- "P9 LRU, f 3, batch 2, writes 1 2 3, read 4: page 1 leaves, pages 1, 2 written"
abbrev pub P9 : Type 0
P9 =
    shown (replayed (lru 3 2) (write 1 ∷ write 2 ∷ write 3 ∷ read 4 ∷ []))
    ≡ (row 1 0 0 0 ∷ row 1 1 0 0 ∷ row 1 2 0 0 ∷ row 3 0 1 2 ∷ [], 1 ∷ 2 ∷ [], 0)

-- "P10 then read 5: page 2 leaves clean"
abbrev pub P10 : Type 0
P10 =
    shown (replayed (lru 3 2) (write 1 ∷ write 2 ∷ write 3 ∷ read 4 ∷ read 5 ∷ []))
    ≡ (row 1 0 0 0 ∷ row 1 1 0 0 ∷ row 1 2 0 0 ∷ row 3 0 1 2 ∷ row 2 1 2 0 ∷ [], 1 ∷ 2 ∷ [], 0)

-- "P11 f 1, pin 1, read 2: refusal 10; read 1 still hits", under every rule
abbrev pub P11 : Type 0
P11 =
    (rule : ℕ) → rule ≤ 2
    → shown (replayed (settings_of rule 1 1 1) (pin 1 ∷ read 2 ∷ read 1 ∷ [])) ≡ (row 1 0 0 0 ∷ row 110 0 0 0 ∷ row 0 0 0 0 ∷ [], [], 0)

-- "P12 page bytes 00 00 00 01 high first: 1; low first: 16,777,216"
abbrev pub P12 : Type 0
P12 = (number_of High (0 ∷ 0 ∷ 0 ∷ 1 ∷ []) ≡ 1) × (number_of Low (0 ∷ 0 ∷ 0 ∷ 1 ∷ []) ≡ 16777216)

-- the single list
abbrev pub dozen : List (Type 0)
dozen = P1 ∷ P2 ∷ P3 ∷ P4 ∷ P5 ∷ P6 ∷ P7 ∷ P8 ∷ P9 ∷ P10 ∷ P11 ∷ P12 ∷ []

-- each statement of a list holds
abbrev pub AllHold : List (Type 0) → Type 0
AllHold [] = Unit {0}
AllHold (S ∷ rest) = S × AllHold rest

-- the single statement
abbrev pub WorkedByHand : Type 0
WorkedByHand = AllHold dozen

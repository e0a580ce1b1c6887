-- Searches among the numbers below a bound: the least that passes a test, the lowest on a tie; whether every one passes; how many do.
use Rattle.std.specs.Prelude.{Bool, true, false, ◌&&◌, ◌||◌, List, [], ◌∷◌, ℕ, zero, suc, ◌+◌, eqb, Option, Some, None}

-- the first of two where the test holds, else the second
abbrev pub pick {ℓ} : {A : Type ℓ} → Bool → A → A → A
pick true a b = a
pick false a b = b

-- a case on what was found
abbrev pub on_found {ℓ} : {A : Type ℓ} → Option ℕ → (ℕ → A) → A → A
on_found (Some i) f d = f i
on_found None f d = d

-- whether something was found
abbrev pub is_found : Option ℕ → Bool
is_found found = on_found found (λ _. true) false

-- what is best when n is offered against what was best: n only where it is less
abbrev pub better : (ℕ → ℕ → Bool) → ℕ → Option ℕ → Option ℕ
better less n None = Some n
better less n (Some b) = pick (less n b) (Some n) (Some b)

-- n is offered where it passes the test
abbrev pub offer : (ℕ → Bool) → (ℕ → ℕ → Bool) → ℕ → Option ℕ → Option ℕ
offer ok less n prev = pick (ok n) (better less n prev) prev

-- the least number below a bound that passes the test, the lowest on a tie
unfoldable pub least_below : (ℕ → Bool) → (ℕ → ℕ → Bool) → ℕ → Option ℕ
least_below ok less zero = None
least_below ok less (suc n) = offer ok less n (least_below ok less n)

-- no number is less than another: the search then finds the lowest that passes
abbrev pub never : ℕ → ℕ → Bool
never i j = false

-- whether every number below a bound passes the test
unfoldable pub every_below : (ℕ → Bool) → ℕ → Bool
every_below ok zero = true
every_below ok (suc n) = every_below ok n && ok n

-- whether a number is in a list
unfoldable pub among : List ℕ → ℕ → Bool
among [] i = false
among (x ∷ xs) i = eqb x i || among xs i

-- 1 where the test holds, else 0
abbrev pub one_if : Bool → ℕ
one_if true = 1
one_if false = 0

-- how many numbers below a bound pass the test
unfoldable pub count_below : (ℕ → Bool) → ℕ → ℕ
count_below ok zero = 0
count_below ok (suc n) = count_below ok n + one_if (ok n)

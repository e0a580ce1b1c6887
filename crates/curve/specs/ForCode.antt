-- What the functions of the code say of themselves. Who reads the rules passes this over.
use Rattle.std.specs.Prelude.{ℕ, zero, suc, ◌+◌, ◌-◌, ◌≤◌, ◌<◌, min, ◌≡◌, List, ◌∷◌, ◌++◌, length, get_or, take, drop, eqb}
use Rattle.search.specs.Search.{pick, count_below}
use Rattle.search.specs.ForCode.{past}
use Rattle.trace.specs.Layout.{up_to}
use Rattle.distance.specs.Distance.{distance_at}
use Rattle.distance.specs.Recent.{touched}
use Rattle.distance.specs.ForCode.{below, place_in, Once}
use Rattle.curve.specs.Curve.{sizes}

-- the first `depth` of the room are a stack: no page stands twice
pub record Stands (room : List ℕ) (depth : ℕ) : Type 0 where
  pub size : length room ≡ sizes
  pub few : depth ≤ sizes
  pub once : Once (take depth room)

-- the first d pages one place further down, and a page in front
abbrev pub moved_up : List ℕ → ℕ → ℕ → List ℕ
moved_up room d page = page ∷ (take d room ++ drop (suc d) room)

-- the place that a page leaves when it comes to the front, given one past its place; a page that was not there comes from below the others
abbrev pub left_by : ℕ → ℕ → ℕ
left_by found depth = pick (eqb found 0) (min depth (sizes - 1)) (found - 1)

-- how many pages the stack then has
abbrev pub deepened : ℕ → ℕ → ℕ
deepened found depth = pick (eqb found 0) (min (depth + 1) sizes) depth

-- a page is used: one past its place, and the stack then
pub record Used (room : List ℕ) (depth page found : ℕ) (room' : List ℕ) : Type 0 where
  pub place : found ≡ past (place_in (take depth room) page)
  pub few : found ≤ sizes
  pub size : length room' ≡ sizes
  pub stack : take (deepened found depth) room' ≡ take sizes (touched page (take depth room))

-- one past the distance of use n where it is below 128, else 0
unfoldable pub past_at : List ℕ → ℕ → ℕ
past_at pages n = past (below sizes (distance_at pages n))

-- how often each number occurs among the first n
pub record Times (pages times : List ℕ) (n : ℕ) : Type 0 where
  pub counted : (j : ℕ) → j ≤ sizes → get_or times j 0 ≡ count_below (λ i. eqb (past_at pages i) j) n

-- what is left of n after f more places have been spared
unfoldable pub left_after : List ℕ → ℕ → ℕ → ℕ
left_after times n zero = n
left_after times n (suc f) = left_after times n f - get_or times (suc f) 0

-- that for 1, 2, .. f frames
unfoldable pub leavings : List ℕ → ℕ → ℕ → List ℕ
leavings times n f = up_to (λ i. left_after times n (i + 1)) f

-- no more is spared than there is
abbrev pub Sparing : List ℕ → ℕ → Type 0
Sparing times n = (f : ℕ) → f < sizes → get_or times (f + 1) 0 ≤ left_after times n f

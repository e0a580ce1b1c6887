-- What the functions of an engine that keeps a stack say of themselves. Who reads the rules passes this over.
use Rattle.std.specs.Prelude.{ℕ, suc, ◌≡◌, false, List, [], ◌∷◌, eqb, ltb, Option, Some, None}
use Rattle.search.specs.Search.{pick, on_found, among}

-- one place further down
abbrev pub deeper : Option ℕ → Option ℕ
deeper r = on_found r (λ d. Some (suc d)) None

-- the place at which a page stands first in a list
unfoldable pub place_in : List ℕ → ℕ → Option ℕ
place_in [] x = None
place_in (y ∷ ys) x = pick (eqb y x) (Some 0) (deeper (place_in ys x))

-- no page stands twice
unfoldable pub Once : List ℕ → Type 0
Once [] = Unit {0}
Once (x ∷ xs) = (among xs x ≡ false) × Once xs

-- a place that is below m, or none
abbrev pub below : ℕ → Option ℕ → Option ℕ
below m r = on_found r (λ d. pick (ltb d m) (Some d) None) None

-- The pages most recently used.
use Rattle.std.specs.Prelude.{ℕ, zero, suc, List, [], ◌∷◌, get_or, eqb}
use Rattle.search.specs.Search.{pick}

-- a list without a page, which is taken out where it stands first
unfoldable pub without : ℕ → List ℕ → List ℕ
without page [] = []
without page (x ∷ xs) = pick (eqb x page) xs (x ∷ without page xs)

-- a page is moved to the front, or put there
abbrev pub touched : ℕ → List ℕ → List ℕ
touched page pages = page ∷ without page pages

-- the different pages of the first n uses, the most recently used first
unfoldable pub recent : List ℕ → ℕ → List ℕ
recent pages zero = []
recent pages (suc n) = touched (get_or pages n 0) (recent pages n)

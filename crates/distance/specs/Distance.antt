-- How many distinct pages lie between two uses of a page, in a list of the pages used, and the misses that this foretells for every number of frames.
use Rattle.std.specs.Prelude.{ℕ, zero, suc, ◌-◌, Bool, false, not, List, length, get_or, drop, eqb, ltb, Option, Some, None}
use Rattle.search.specs.Search.{pick, on_found, is_found, count_below}

-- the last use of a page among the first n
unfoldable pub last_use : List ℕ → ℕ → ℕ → Option ℕ
last_use pages page zero = None
last_use pages page (suc n) = pick (eqb (get_or pages n 0) page) (Some n) (last_use pages page n)

-- how many distinct pages the first n are: each counts where it is used first
unfoldable pub distinct_in : List ℕ → ℕ → ℕ
distinct_in pages n = count_below (λ i. not (is_found (last_use pages (get_or pages i 0) i))) n

-- how many distinct pages lie between use n and the use of the same page before it, where there is one
unfoldable pub distance_at : List ℕ → ℕ → Option ℕ
distance_at pages n = on_found (last_use pages (get_or pages n 0) n) (λ m. Some (distinct_in (drop (suc m) pages) (n - suc m))) None

-- fewer than f distinct pages lie between
abbrev pub within : ℕ → Option ℕ → Bool
within f distance = on_found distance (λ d. ltb d f) false

-- with f frames a use is a miss where its page was not used before, or f distinct pages or more lie between; of the first n uses so many are
unfoldable pub misses_to : List ℕ → ℕ → ℕ → ℕ
misses_to pages f n = count_below (λ i. not (within f (distance_at pages i))) n

-- of all uses
abbrev pub misses_at : List ℕ → ℕ → ℕ
misses_at pages f = misses_to pages f (length pages)

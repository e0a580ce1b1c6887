-- Batch: which frames come after the victim.
use Rattle.std.specs.Prelude.{ℕ, zero, suc, Bool, ◌&&◌, not, List, [], ◌∷◌, ◌++◌}
use Rattle.search.specs.Search.{on_found, least_below, among}

-- among the frames below f that wait to be written, in an order
module _ (waits : ℕ → Bool) (before : ℕ → ℕ → Bool) (f : ℕ) where
  -- those that are not in the batch yet
  abbrev pub remaining : List ℕ → ℕ → Bool
  remaining taken i = waits i && not (among taken i)

  -- the least of them is taken, if there is one
  abbrev pub one_more : List ℕ → List ℕ
  one_more taken = on_found (least_below (remaining taken) before f) (λ i. taken ++ (i ∷ [])) taken

  -- least first, until n are taken or they end
  unfoldable pub others_to : ℕ → List ℕ
  others_to zero = []
  others_to (suc n) = one_more (others_to n)

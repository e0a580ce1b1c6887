-- LRU.
use Rattle.std.specs.Prelude.{ℕ, Bool, List, [], ◌∷◌, nat_lt, Option}
use Rattle.search.specs.Search.{least_below}
use Rattle.pool.specs.declared.Frame.{Frame}
use Rattle.pool.specs.declared.Pool.{Pool}
use Rattle.pool.specs.Pool.{frame_at}
use Rattle.victim.specs.Choice.{Choice, Rule, unpinned, unmoved}

-- a lesser last step
abbrev pub older : List Frame → ℕ → ℕ → Bool
older fs i j = nat_lt (frame_at fs i).last (frame_at fs j).last

-- LRU: the least last step
unfoldable pub lru_victim : List Frame → ℕ → Option ℕ
lru_victim fs f = least_below (unpinned fs) (older fs) f

-- hand, sampler number and frames stay
unfoldable pub lru_choice : Pool → Choice
lru_choice p = unmoved p (lru_victim p.frames p.settings.frames)

-- its batches go by last step
abbrev pub lru_rule : Rule
lru_rule = record { choice = lru_choice; order = λ p. older p.frames; name = 108 ∷ 114 ∷ 117 ∷ [] }

-- The rules by number.
use Rattle.std.specs.Prelude.{ℕ, zero, suc, Bool, false, [], None}
use Rattle.pool.specs.declared.Pool.{Pool}
use Rattle.victim.specs.Choice.{Choice, Rule, unmoved}
use Rattle.victim.specs.Lru.{lru_rule}
use Rattle.victim.specs.Clock.{clock_rule}
use Rattle.victim.specs.Watt.{watt_rule}

-- no rule: it chooses nothing, orders nothing, and has no name
abbrev pub no_rule : Rule
no_rule = record { choice = λ p. unmoved p None; order = λ p i j. false; name = [] }

-- 0 LRU, 1 generalised clock, 2 WATT; any other number, which no sound pool has, is no rule
abbrev pub by_rule : ℕ → Rule
by_rule zero = lru_rule
by_rule (suc zero) = clock_rule
by_rule (suc (suc zero)) = watt_rule
by_rule (suc (suc (suc r))) = no_rule

-- what the pool's own rule chooses
unfoldable pub choice_of : Pool → Choice
choice_of p = (by_rule p.settings.rule).choice p

-- the order of its batches
unfoldable pub batch_order : Pool → ℕ → ℕ → Bool
batch_order p = (by_rule p.settings.rule).order p

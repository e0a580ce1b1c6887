-- The same of the calls, from their contracts: what each stores and returns for the renamed pool and the renamed page or bytes.
use Rattle.std.specs.Prelude.{ℕ, ◌≡◌, true, List, ◌∷◌, map, length}
use Rattle.word.specs.declared.Order.{Order}
use Rattle.refusal.specs.Refusals.{stored}
use Rattle.trace.specs.Check.{trace_of}
use Rattle.pool.specs.declared.Pool.{Pool}
use Rattle.pool.specs.Sound.{sound_pool}
use Rattle.tally.specs.declared.Tally.{Tally}
use Rattle.effect.specs.Record.{record_of}
use Rattle.replay.specs.declared.Ended.{Ended}
use Rattle.replay.specs.Replay.{replay_of, rows_numbers}
use Rattle.replay.specs.Calls.{Stepped, step_refusal, stepped_of, StepInto, replay_refusal, ended_of, counts_of, ReplayInto}
use Rattle.rename.specs.Renamed.{renamed_pages, renamed_pool, renamed_bytes, renamed_row, renamed_stepped, renamed_ended}
use Rattle.rename.specs.Sameness.{resident_pages, pages_together, Renames, Given}

-- `ReplayInto`, what `replay::replay` ensures, with the answer, the rows and the written pages renamed; refusal, counts and all other places are the same
pub record ReplayRenamed (ρ : ℕ → ℕ) (p : Pool) (t : Tally) (s rows written : List ℕ) (r : Ended) (rows' written' : List ℕ) : Type 0 where
  pub answers : r ≡ renamed_ended ρ (ended_of (replay_refusal p t s (length rows) (length written)) p t (replay_of p t (trace_of s)))
  pub rows_hold : rows' ≡ stored (replay_refusal p t s (length rows) (length written)) (rows_numbers (map (renamed_row ρ) (replay_of p t (trace_of s)).rows)) rows
  pub written_hold : written' ≡ stored (replay_refusal p t s (length rows) (length written)) (renamed_pages ρ (replay_of p t (trace_of s)).written) written

-- that is what it does for the renamed pool and the renamed bytes, written in either order, whatever the lists that are lent to it
abbrev pub ReplayDemand : Type 0
ReplayDemand = (ρ : ℕ → ℕ) (p : Pool) (t : Tally) (s : List ℕ) → Given p s → Renames ρ (pages_together p (trace_of s))
    → (o : Order) (rows written : List ℕ) (r : Ended) (rows' written' : List ℕ)
    → ReplayInto (renamed_pool ρ p) t (renamed_bytes ρ o s) rows written r rows' written' → ReplayRenamed ρ p t s rows written r rows' written'

-- `replay::counts` ensures that its answer is `counts_of`
abbrev pub CountsDemand : Type 0
CountsDemand = (ρ : ℕ → ℕ) (p : Pool) (t : Tally) (s : List ℕ) → Given p s → Renames ρ (pages_together p (trace_of s))
    → (o : Order) → counts_of (renamed_pool ρ p) t (renamed_bytes ρ o s) ≡ renamed_ended ρ (counts_of p t s)

-- `StepInto`, what `replay::step` ensures, with the answer and the written pages renamed
pub record StepRenamed (ρ : ℕ → ℕ) (p : Pool) (t : Tally) (page kind : ℕ) (list : List ℕ) (r : Stepped) (list' : List ℕ) : Type 0 where
  pub answers : r ≡ renamed_stepped ρ (stepped_of (step_refusal p t kind (length list)) p t (record_of p page kind))
  pub list_holds : list' ≡ stored (step_refusal p t kind (length list)) (renamed_pages ρ (record_of p page kind).written) list

-- that is what it does for the renamed pool and page, with ρ one_to_one on the page and those of the pool
abbrev pub StepDemand : Type 0
StepDemand = (ρ : ℕ → ℕ) (p : Pool) (t : Tally) (page kind : ℕ) → sound_pool p ≡ true → Renames ρ (page ∷ resident_pages p.frames)
    → (list : List ℕ) (r : Stepped) (list' : List ℕ) → StepInto (renamed_pool ρ p) t (ρ page) kind list r list' → StepRenamed ρ p t page kind list r list'

-- Renaming by ρ and then by σ is renaming once by both.
use Rattle.std.specs.Prelude.{ℕ, ◌≡◌, List}
use Rattle.word.specs.declared.Order.{Order}
use Rattle.trace.specs.Layout.{Trace}
use Rattle.trace.specs.Check.{trace_of}
use Rattle.pool.specs.declared.Pool.{Pool}
use Rattle.tally.specs.declared.Row.{Row}
use Rattle.replay.specs.Replay.{Played}
use Rattle.rename.specs.Renamed.{renamed_pages, renamed_pool, renamed_trace, renamed_bytes, renamed_row, renamed_played}
use Rattle.rename.specs.Sameness.{pages_together, Renames, Given}

-- by ρ, and then by σ
abbrev pub in_turn : (ℕ → ℕ) → (ℕ → ℕ) → ℕ → ℕ
in_turn ρ σ page = σ (ρ page)

-- of lists, pools, traces and bytes (whichever order is written on the way), rows and replays; and both together are one_to_one on the first's pages,
-- where the second is on the pages of the renamed pool and trace
pub record InTurn (ρ σ : ℕ → ℕ) : Type 0 where
  pub pages : (l : List ℕ) → renamed_pages σ (renamed_pages ρ l) ≡ renamed_pages (in_turn ρ σ) l
  pub pool : (p : Pool) → renamed_pool σ (renamed_pool ρ p) ≡ renamed_pool (in_turn ρ σ) p
  pub trace : (o u : Order) (t : Trace) → renamed_trace σ u (renamed_trace ρ o t) ≡ renamed_trace (in_turn ρ σ) u t
  pub bytes : (p : Pool) (s : List ℕ) → Given p s → Renames ρ (pages_together p (trace_of s)) → (o u : Order) → renamed_bytes σ u (renamed_bytes ρ o s) ≡ renamed_bytes (in_turn ρ σ) u s
  pub row : (w : Row) → renamed_row σ (renamed_row ρ w) ≡ renamed_row (in_turn ρ σ) w
  pub played : (r : Played) → renamed_played σ (renamed_played ρ r) ≡ renamed_played (in_turn ρ σ) r
  pub names : (p : Pool) (o : Order) (t : Trace)
      → Renames ρ (pages_together p t) → Renames σ (pages_together (renamed_pool ρ p) (renamed_trace ρ o t)) → Renames (in_turn ρ σ) (pages_together p t)

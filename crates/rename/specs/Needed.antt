-- That ρ is one_to_one on the pages of trace and pool together is needed: on those of each alone is not enough.
use Rattle.std.specs.Prelude.{ℕ, List, [], ◌∷◌}
use Rattle.word.specs.declared.Order.TheVariants.{High}
use Rattle.settings.specs.Settings.{one_frame}
use Rattle.trace.specs.Layout.{Trace, trace_from}
use Rattle.trace.specs.Check.{trace_of}
use Rattle.pool.specs.declared.Pool.{Pool}
use Rattle.pool.specs.Pool.{fresh_pool}
use Rattle.tally.specs.declared.Tally.{Tally}
use Rattle.effect.specs.Record.{record_of}
use Rattle.rename.specs.Sameness.{resident_pages, Renames, Given, OnlySameness}

-- a pool of one frame after a read of page 1
abbrev pub pool : Pool
pool = (record_of (fresh_pool one_frame) 1 0).pool

-- a trace that reads page 2
abbrev pub trace : Trace
trace = trace_from one_frame High (2 ∷ []) (0 ∷ [])

-- one number for both
abbrev pub merging : ℕ → ℕ
merging page = 1

-- the demand, asking for one_to_one on the pages of each alone; `needed` in proofs/ shows that it does not hold
abbrev pub DemandApart : Type 0
DemandApart = (ρ : ℕ → ℕ) (p : Pool) (t : Tally) (s : List ℕ) → Given p s → Renames ρ (trace_of s).pages → Renames ρ (resident_pages p.frames) → OnlySameness ρ p t s

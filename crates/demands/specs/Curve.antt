-- "The curve on one pass. .. Each number must equal the plain LRU replay's misses at that size from a fresh pool, whatever rule the trace names. It serves
-- traces without pin or unpin."
use Rattle.std.specs.Prelude.{ℕ, ◌-◌, ◌*◌, ◌≤◌, ◌≡◌, true, List, ◌↔◌, get_or}
use Rattle.word.specs.Number.{number_at}
use Rattle.trace.specs.Check.{refusal_of, trace_of}
use Rattle.pool.specs.Pool.{frame_room}
use Rattle.curve.specs.Curve.{no_pins, curve_refusal, CurveInto}
use Rattle.recency.specs.Recency.{RecencyLaw}
use Rattle.recency.specs.Curve.{lru_misses}
use Rattle.host.specs.Curve.{CurveBytesInto}
use Rattle.rename.specs.Sameness.{AreBytes}

pub record Curves : Type 0 where
  -- `curve::misses`: for every f from 1 to 128, place f − 1 is the misses of the replay of the trace's records with its settings but LRU and f frames
  pub misses : (s list list' : List ℕ) → AreBytes s → CurveInto s list 0 list' → (f : ℕ) → 1 ≤ f → f ≤ frame_room → get_or list' (f - 1) 0 ≡ lru_misses (trace_of s) f
  -- `hitchyawl_curve`: so is the number of the 4 bytes at 4 × (f − 1), in the trace's own order
  pub bytes : (s out out' : List ℕ) → AreBytes s → CurveBytesInto s out 0 out' → (f : ℕ) → 1 ≤ f → f ≤ frame_room
      → number_at (trace_of s).order 4 (4 * (f - 1)) out' ≡ lru_misses (trace_of s) f
  -- "it serves traces without pin or unpin": each accepted one where there is room, and no other
  pub serves : (s : List ℕ) (needed room : ℕ) → (curve_refusal s needed room ≡ 0) ↔ ((refusal_of s ≡ 0) × (no_pins (trace_of s).kinds ≡ true) × (needed ≤ room))
  -- what it rests on: an LRU pool of f frames holds exactly the f most recently used different pages, by last step
  pub rests : RecencyLaw

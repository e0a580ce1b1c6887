-- "Each number must equal the plain LRU replay's misses at that size from a fresh pool, whatever rule the trace names."
use Rattle.std.specs.Prelude.{ℕ, ◌≤◌, ◌≡◌, true}
use Rattle.settings.specs.declared.Settings.{Settings}
use Rattle.settings.specs.Settings.{set_rule, set_frames}
use Rattle.trace.specs.Layout.{Trace}
use Rattle.trace.specs.Encode.{Proper}
use Rattle.pool.specs.Pool.{frame_room, fresh_pool}
use Rattle.tally.specs.Tally.{zero_tally}
use Rattle.replay.specs.Replay.{replay_of}
use Rattle.distance.specs.Distance.{misses_at}
use Rattle.curve.specs.Curve.{no_pins}

-- LRU with f frames, and all other settings as they were
abbrev pub lru_with : Settings → ℕ → Settings
lru_with s f = set_rule 0 (set_frames f s)

-- the misses of a plain LRU replay with f frames from a fresh pool: the trace's records and its settings but for rule and frames
abbrev pub lru_misses : Trace → ℕ → ℕ
lru_misses trace f = (replay_of (fresh_pool (lru_with trace.settings f)) zero_tally trace).tally.misses

-- of a trace that the checker accepts and that has no pin or unpin, they are those that the distances foretell
abbrev pub CurveDemand : Type 0
CurveDemand = (trace : Trace) → Proper trace → no_pins trace.kinds ≡ true → (f : ℕ) → 1 ≤ f → f ≤ frame_room → misses_at trace.pages f ≡ lru_misses trace f

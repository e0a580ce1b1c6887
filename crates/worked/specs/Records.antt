-- Traces as lists of records, and their replay from a fresh pool.
use Rattle.std.specs.Prelude.{List, map, ℕ}
use Rattle.word.specs.declared.Order.TheVariants.{High}
use Rattle.settings.specs.Settings.{one_frame, set_rule, set_frames, set_batch, set_cap}
use Rattle.settings.specs.declared.Settings.{Settings}
use Rattle.trace.specs.declared.Record.{Record}
use Rattle.trace.specs.Layout.{Trace, trace_from}
use Rattle.pool.specs.Pool.{fresh_pool}
use Rattle.tally.specs.declared.Row.{Row}
use Rattle.tally.specs.Tally.{zero_tally}
use Rattle.replay.specs.Replay.{Played, replay_of}

-- the kinds: 0 read
abbrev pub read : ℕ → Record
read page = record { page = page; kind = 0 }

-- 1 write
abbrev pub write : ℕ → Record
write page = record { page = page; kind = 1 }

-- 2 pin
abbrev pub pin : ℕ → Record
pin page = record { page = page; kind = 2 }

-- a rule, f, batch size and cap; the other settings are 1, write weight and seed 0
abbrev pub settings_of : ℕ → ℕ → ℕ → ℕ → Settings
settings_of rule f batch cap = set_rule rule (set_frames f (set_batch batch (set_cap cap one_frame)))

-- LRU: f and batch size
abbrev pub lru : ℕ → ℕ → Settings
lru f batch = settings_of 0 f batch 1

-- clock: f and cap
abbrev pub clock : ℕ → ℕ → Settings
clock f cap = settings_of 1 f 1 cap

-- a trace of these records, high byte first
abbrev pub traced : Settings → List Record → Trace
traced s records = trace_from s High (map (λ (r : Record). r.page) records) (map (λ (r : Record). r.kind) records)

-- its replay from a fresh pool
abbrev pub replayed : Settings → List Record → Played
replayed s records = replay_of (fresh_pool s) zero_tally (traced s records)

-- the rows of a replay, the pages written, and the hand at the end
abbrev pub shown : Played → (List Row) × (List ℕ) × ℕ
shown r = (r.rows, r.written, r.pool.hand)

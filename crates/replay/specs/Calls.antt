-- The single step, replay with rows and replay to counts: refusals, answers, and lent lists afterwards.
use Rattle.std.specs.Prelude.{ℕ, zero, suc, ◌+◌, ◌*◌, ◌≡◌, Bool, ◌&&◌, List, length, leb, Result, Ok, Err}
use Rattle.refusal.specs.declared.Refusal.{Refusal}
use Rattle.refusal.specs.Numbers.{number_of}
use Rattle.refusal.specs.Refusals.{demand, or_else, stored, bad_field, no_room, not_sound, other_settings}
use Rattle.settings.specs.Settings.{same_settings}
use Rattle.trace.specs.Layout.{Trace, known_kind, writes_in}
use Rattle.trace.specs.Check.{refusal_of, trace_of}
use Rattle.pool.specs.declared.Pool.{Pool}
use Rattle.pool.specs.Sound.{sound_pool}
use Rattle.tally.specs.declared.Row.{Row}
use Rattle.tally.specs.declared.Tally.{Tally}
use Rattle.tally.specs.Rows.{refused_row}
use Rattle.tally.specs.Tally.{tally_within, counted_by}
use Rattle.effect.specs.Record.{Did, record_of, dirty_in}
use Rattle.replay.specs.declared.Ended.{Ended}
use Rattle.replay.specs.declared.Unstepped.{Unstepped}
use Rattle.replay.specs.Replay.{Played, replay_of, rows_numbers}

-- 14 unless the pool is sound and no count of the tally handed in is above 4,000,000,000
unfoldable pub may_begin : Pool → Tally → Bool
may_begin p t = sound_pool p && tally_within t

-- a single step checks 14, then 6 for a bad kind, then 13: it needs as many write places as the batch size
unfoldable pub step_refusal : Pool → Tally → ℕ → ℕ → ℕ
step_refusal p t kind places =
    demand (may_begin p t) not_sound
    (demand (known_kind kind) bad_field
    (demand (leb p.settings.batch places) no_room 0))

-- what a step gives: a refusal or 0, its row, and pool and tally afterwards
pub record Stepped : Type 0 where
  pub refusal : ℕ
  pub row : Row
  pub pool : Pool
  pub tally : Tally

-- the row of a refused call is that of a refused record
abbrev pub refused_step : Refusal → Unstepped
refused_step r = record { refusal = r; row = refused_row (number_of r) }

-- as its answer tells
abbrev pub stepped_by : Result Row Unstepped → Pool → Tally → Stepped
stepped_by (Ok row) p t = record { refusal = 0; row = row; pool = p; tally = t }
stepped_by (Err u) p t = record { refusal = number_of u.refusal; row = u.row; pool = p; tally = t }

-- then it works as a record of a replay; a refused call hands back pool and tally as given
abbrev pub stepped_of : ℕ → Pool → Tally → Did → Stepped
stepped_of zero p t d = record { refusal = 0; row = d.row; pool = d.pool; tally = counted_by t d.row }
stepped_of (suc r) p t d = record { refusal = suc r; row = refused_row (suc r); pool = p; tally = t }

-- the step's answer, and every place of the lent list
pub record StepInto (p : Pool) (t : Tally) (page kind : ℕ) (list : List ℕ) (r : Stepped) (list' : List ℕ) : Type 0 where
  pub answers : r ≡ stepped_of (step_refusal p t kind (length list)) p t (record_of p page kind)
  pub list_holds : list' ≡ stored (step_refusal p t kind (length list)) (record_of p page kind).written list

-- trace checks run 1 to 8 in that order, then replay's 15; 14 comes before all
unfoldable pub counts_refusal : Pool → Tally → List ℕ → ℕ
counts_refusal p t s =
    demand (may_begin p t) not_sound
    (or_else (refusal_of s)
    (demand (same_settings (trace_of s).settings p.settings) other_settings 0))

-- replay needs 4n row numbers, and write places equal to write records plus dirty frames at the start
abbrev pub room_for : Pool → Trace → ℕ → ℕ → Bool
room_for p trace rows places = leb (4 * length trace.pages) rows && leb (writes_in trace.kinds + dirty_in p.frames) places

-- a replay with rows checks 13 after that
unfoldable pub replay_refusal : Pool → Tally → List ℕ → ℕ → ℕ → ℕ
replay_refusal p t s rows places = or_else (counts_refusal p t s) (demand (room_for p (trace_of s) rows places) no_room 0)

-- a refusal or 0, and pool and tally
abbrev pub ended_as : ℕ → Pool → Tally → Ended
ended_as r p t = record { refusal = r; pool = p; tally = t }

-- where a replay ends; a refused call hands back pool and tally as given
abbrev pub ended_of : ℕ → Pool → Tally → Played → Ended
ended_of zero p t r = ended_as 0 r.pool r.tally
ended_of (suc n) p t r = ended_as (suc n) p t

-- replay to counts
unfoldable pub counts_of : Pool → Tally → List ℕ → Ended
counts_of p t s = ended_of (counts_refusal p t s) p t (replay_of p t (trace_of s))

-- replay with rows: its answer, and every place of both lent lists
pub record ReplayInto (p : Pool) (t : Tally) (s rows written : List ℕ) (r : Ended) (rows' written' : List ℕ) : Type 0 where
  pub answers : r ≡ ended_of (replay_refusal p t s (length rows) (length written)) p t (replay_of p t (trace_of s))
  pub rows_hold : rows' ≡ stored (replay_refusal p t s (length rows) (length written)) (rows_numbers (replay_of p t (trace_of s)).rows) rows
  pub written_hold : written' ≡ stored (replay_refusal p t s (length rows) (length written)) (replay_of p t (trace_of s)).written written

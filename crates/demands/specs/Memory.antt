-- "More memory must not look worse. .. For LRU, a trace with no pin or unpin, from fresh pools of f and f + 1 frames whose other settings agree, and with all
-- references accepted: after every record, each page in the smaller pool is in the larger one, so misses never rise. We promise this for no other rule. Let
-- the curve report say that its numbers never rise, and rest on this."
use Rattle.std.specs.Prelude.{ℕ, suc, ◌-◌, ◌*◌, ◌≤◌, ◌<◌, ◌≡◌, true, List, [], ◌∷◌, length, get_or}
use Rattle.word.specs.Number.{number_at}
use Rattle.settings.specs.declared.Settings.{Settings}
use Rattle.settings.specs.Settings.{in_range, set_rule, set_frames, set_sample, set_span}
use Rattle.trace.specs.declared.Record.{Record}
use Rattle.trace.specs.Layout.{Trace}
use Rattle.trace.specs.Encode.{Proper}
use Rattle.trace.specs.Check.{trace_of}
use Rattle.pool.specs.Pool.{frame_room, fresh_pool}
use Rattle.tally.specs.declared.Row.{Row}
use Rattle.tally.specs.declared.Tally.{Tally}
use Rattle.tally.specs.Rows.{refused_row, is_hit}
use Rattle.tally.specs.Tally.{numbers_of, zero_tally}
use Rattle.replay.specs.Replay.{Played, replay_to, replay_of}
use Rattle.curve.specs.Curve.{NeverRises, no_pins, CurveInto}
use Rattle.recency.specs.Recency.{holds}
use Rattle.host.specs.Curve.{CurveBytesInto}
use Rattle.rename.specs.Sameness.{AreBytes}
use Rattle.worked.specs.Records.{read, settings_of, clock, traced}

module _ (s : Settings) (t : Tally) (trace : Trace) where
  -- the replay from a fresh pool of f frames, the other settings as they are: of the first n records
  abbrev pub beginning_with : ℕ → ℕ → Played
  beginning_with f n = replay_to (fresh_pool (set_frames f s)) t trace n

  -- and of all
  abbrev pub replay_with : ℕ → Played
  replay_with f = replay_of (fresh_pool (set_frames f s)) t trace

  -- "all references accepted": none was counted as refused
  abbrev pub AllAccepted : ℕ → Type 0
  AllAccepted f = (replay_with f).tally.refused ≡ t.refused

  -- the row of record n; past the records, none that is a hit
  abbrev pub row_with : ℕ → ℕ → Row
  row_with f n = get_or (replay_with f).rows n (refused_row 0)

  -- g frames do not look worse than f
  pub record NotWorse (f g : ℕ) : Type 0 where
    -- "after every record, each page in the smaller pool is in the larger one"
    pub pages : (n : ℕ) → n ≤ length trace.pages → (page : ℕ) → holds (beginning_with f n).pool page ≡ true → holds (beginning_with g n).pool page ≡ true
    -- each row that is a hit is one still
    pub rows : (n : ℕ) → n < length trace.pages → is_hit (row_with f n) ≡ true → is_hit (row_with g n) ≡ true
    -- "so misses never rise": those of no beginning
    pub beginnings : (n : ℕ) → n ≤ length trace.pages → (beginning_with g n).tally.misses ≤ (beginning_with f n).tally.misses
    -- nor those of the whole replay
    pub misses : (replay_with g).tally.misses ≤ (replay_with f).tally.misses

-- the promise for a rule and the sizes f and g: "a trace with no pin or unpin, from fresh pools .. whose other settings agree, and with all references accepted"
abbrev pub PromisedFor : ℕ → ℕ → ℕ → Type 0
PromisedFor rule f g =
    (s : Settings) (t : Tally) (trace : Trace) → s.rule ≡ rule → in_range (set_frames f s) ≡ true → in_range (set_frames g s) ≡ true → no_pins trace.kinds ≡ true
    → AllAccepted s t trace f → AllAccepted s t trace g → NotWorse s t trace f g

-- the counts of a trace of these records, with its settings but f frames: hits, misses, evictions, batches, pages written, refused
abbrev pub counts_with : Settings → List Record → ℕ → List ℕ
counts_with s records f = numbers_of (replay_with s zero_tally (traced s records) f).tally

-- the trace clock_rises: generalised clock, f 3, cap 2
abbrev pub clock_reads : List Record
clock_reads = read 1 ∷ read 2 ∷ read 1 ∷ read 2 ∷ read 3 ∷ read 4 ∷ read 3 ∷ []

-- it has one miss more with 3 frames than with 2
abbrev pub ClockRises : Type 0
ClockRises = (counts_with (clock 3 2) clock_reads 2 ≡ 3 ∷ 4 ∷ 2 ∷ 0 ∷ 0 ∷ 0 ∷ []) × (counts_with (clock 3 2) clock_reads 3 ≡ 2 ∷ 5 ∷ 2 ∷ 0 ∷ 0 ∷ 0 ∷ [])

-- WATT, f 3, sample size 16, epoch length 3
abbrev pub watt : Settings
watt = set_sample 16 (set_span 3 (settings_of 2 3 1 1))

-- the trace watt_rises
abbrev pub watt_reads : List Record
watt_reads = read 1 ∷ read 2 ∷ read 3 ∷ read 1 ∷ read 4 ∷ read 2 ∷ read 4 ∷ []

-- it has, too
abbrev pub WattRises : Type 0
WattRises = (counts_with watt watt_reads 2 ≡ 2 ∷ 5 ∷ 3 ∷ 0 ∷ 0 ∷ 0 ∷ []) × (counts_with watt watt_reads 3 ≡ 1 ∷ 6 ∷ 3 ∷ 0 ∷ 0 ∷ 0 ∷ [])

pub record MoreMemory : Type 0 where
  -- "for LRU .. from fresh pools of f and f + 1 frames"
  pub one : (f : ℕ) → PromisedFor 0 f (suc f)
  -- and with any number of frames more
  pub more : (f g : ℕ) → f ≤ g → PromisedFor 0 f g
  -- a trace that the checker accepts and that has no pin or unpin has all references accepted under LRU, at every size
  pub accepted : (trace : Trace) → Proper trace → no_pins trace.kinds ≡ true → (t : Tally) (f : ℕ) → 1 ≤ f → f ≤ frame_room → AllAccepted (set_rule 0 trace.settings) t trace f
  -- "let the curve report .. rest on this": so what `curve::misses` stores never rises
  pub curve : (s list list' : List ℕ) → AreBytes s → CurveInto s list 0 list' → NeverRises list'
  -- nor do the numbers that `hitchyawl_curve` stores
  pub bytes : (s out out' : List ℕ) → AreBytes s → CurveBytesInto s out 0 out' → (f g : ℕ) → 1 ≤ f → f ≤ g → g ≤ frame_room
      → number_at (trace_of s).order 4 (4 * (g - 1)) out' ≤ number_at (trace_of s).order 4 (4 * (f - 1)) out'
  -- "we promise this for no other rule": by generalised clock one frame more may cost one miss more
  pub clock_rises : ClockRises
  -- and by WATT
  pub watt_rises : WattRises
  -- so what is promised for LRU does not hold for the one
  pub not_clock : PromisedFor 1 2 3 → ⊥
  -- nor for the other
  pub not_watt : PromisedFor 2 2 3 → ⊥

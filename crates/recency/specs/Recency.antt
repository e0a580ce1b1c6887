-- Under LRU a pool of f frames holds exactly the f most recently used different pages, by last step.
use Rattle.std.specs.Prelude.{ℕ, ◌+◌, ◌≤◌, ◌<◌, ◌≡◌, Bool, true, not, length, get_or, take}
use Rattle.limit.specs.Limits.{reference_limit}
use Rattle.search.specs.Search.{is_found, among}
use Rattle.settings.specs.declared.Settings.{Settings}
use Rattle.settings.specs.Settings.{in_range}
use Rattle.trace.specs.Layout.{Trace, record_in}
use Rattle.pool.specs.declared.Pool.{Pool}
use Rattle.pool.specs.Pool.{fresh_pool}
use Rattle.reference.specs.Search.{find_page}
use Rattle.tally.specs.declared.Row.{Row}
use Rattle.tally.specs.declared.Tally.{Tally}
use Rattle.tally.specs.Rows.{is_hit, is_miss}
use Rattle.effect.specs.Record.{record_of}
use Rattle.replay.specs.Replay.{replay_to}
use Rattle.distance.specs.Distance.{distance_at, within, misses_to}
use Rattle.distance.specs.Recent.{recent}
use Rattle.recency.specs.Ordered.{Ordered}

-- settings in range that name LRU
pub record Lru (s : Settings) : Type 0 where
  pub range : in_range s ≡ true
  pub rule : s.rule ≡ 0

-- a trace without pin or unpin, with no more records than a pool takes references; what settings it names does not count
pub record Plain (trace : Trace) : Type 0 where
  pub kinds : (n : ℕ) → n < length trace.pages → get_or trace.kinds n 0 ≤ 1
  pub few : length trace.pages ≤ reference_limit

-- whether a page is in a frame in use
abbrev pub holds : Pool → ℕ → Bool
holds p page = is_found (find_page p.frames page)

module _ (s : Settings) (t : Tally) (trace : Trace) where
  -- the pool after n records, from a fresh one
  abbrev pub pool_after : ℕ → Pool
  pool_after n = (replay_to (fresh_pool s) t trace n).pool

  -- the row of record n
  abbrev pub row_at : ℕ → Row
  row_at n = (record_of (pool_after n) (record_in trace n).page (record_in trace n).kind).row

  -- after every record
  pub record Recency : Type 0 where
    -- the frames in use, by last step, hold the f most recently used pages, in this order
    pub ordered : (n : ℕ) → n ≤ length trace.pages → Ordered (pool_after n) (take s.frames (recent trace.pages n))
    -- a page is in the pool exactly where it is one of them
    pub held : (n : ℕ) → n ≤ length trace.pages → (page : ℕ) → holds (pool_after n) page ≡ among (take s.frames (recent trace.pages n)) page
    -- no record was refused
    pub accepted : (n : ℕ) → n ≤ length trace.pages → (pool_after n).k ≡ n
    -- the next record is a hit exactly where fewer than f distinct pages lie between it and the use of its page before it
    pub hits : (n : ℕ) → n < length trace.pages → is_hit (row_at n) ≡ within s.frames (distance_at trace.pages n)
    pub misses : (n : ℕ) → n < length trace.pages → is_miss (row_at n) ≡ not (within s.frames (distance_at trace.pages n))
    -- so the misses so far are those that the distances foretell
    pub counted : (n : ℕ) → n ≤ length trace.pages → (replay_to (fresh_pool s) t trace n).tally.misses ≡ t.misses + misses_to trace.pages s.frames n

-- for every number of frames, whatever the other settings
abbrev pub RecencyLaw : Type 0
RecencyLaw = (s : Settings) (t : Tally) (trace : Trace) → Lru s → Plain trace → Recency s t trace

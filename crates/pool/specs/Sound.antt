-- When a pool is sound: one definition, clause by clause.
use Rattle.std.specs.Prelude.{ℕ, ◌+◌, ◌-◌, ◌*◌, Bool, true, ◌&&◌, ◌||◌, not, List, get_or, eqb, ltb, leb}
use Rattle.search.specs.Search.{pick, every_below}
use Rattle.refusal.specs.Refusals.{demand, not_sound}
use Rattle.settings.specs.Settings.{in_range}
use Rattle.pool.specs.declared.Frame.{Frame}
use Rattle.pool.specs.declared.Pool.{Pool}
use Rattle.limit.specs.Limits.{reference_limit}
use Rattle.pool.specs.Pool.{frame_room, access_room, write_room, frame_at, last_epoch_of}

-- the second test, asked only where the first holds
abbrev pub whenever : Bool → Bool → Bool
whenever a b = pick a b true

-- whether a frame is in use and holds the page
abbrev pub holds_page : ℕ → Frame → Bool
holds_page page fr = fr.used && eqb fr.page page

-- whether a frame is in use and was last referenced at the step
abbrev pub last_at : ℕ → Frame → Bool
last_at step fr = fr.used && eqb fr.last step

-- all zero
abbrev pub zero_frame : Frame → Bool
zero_frame fr =
    not fr.used
    && (eqb fr.page 0
    && (not fr.dirty
    && (eqb fr.pins 0
    && (eqb fr.count 0
    && (eqb fr.last 0
    && (eqb fr.accesses 0
    && eqb fr.writes 0))))))

-- place j of a log of n entries: strictly falling from newest to oldest, no entry above the epoch, unused log places zero
abbrev pub place_sound : ℕ → ℕ → ℕ → ℕ → ℕ → Bool
place_sound j n epoch newer t = pick (ltb j n) ((eqb j 0 || ltb t newer) && leb t epoch) (eqb t 0)

-- the same, the numbers taken from the array
abbrev pub place_at : List ℕ → ℕ → ℕ → ℕ → ℕ → Bool
place_at a at n epoch j = place_sound j n epoch (get_or a (at + (j - 1)) 0) (get_or a (at + j) 0)

-- the log of n entries in the `room` places from `at` on: within its length, and each place sound
unfoldable pub sound_log : List ℕ → ℕ → ℕ → ℕ → ℕ → Bool
sound_log a at room n epoch = leb n room && every_below (place_at a at n epoch) room

module _ (p : Pool) (i : ℕ) where
  -- in use
  abbrev pub used : Bool
  used = (frame_at p.frames i).used

  -- frames in use are the lowest-numbered
  abbrev pub lowest : Bool
  lowest = whenever used (every_below (λ j. (frame_at p.frames j).used) i)

  -- fewer than or equal to f
  abbrev pub within_frames : Bool
  within_frames = whenever used (ltb i p.settings.frames)

  -- frames in use hold distinct pages
  abbrev pub distinct_page : Bool
  distinct_page = whenever used (every_below (λ j. not (holds_page (frame_at p.frames i).page (frame_at p.frames j))) i)

  -- unused frames are all zero
  abbrev pub unused_zero : Bool
  unused_zero = used || zero_frame (frame_at p.frames i)

  -- clock counts at most the cap
  abbrev pub count_capped : Bool
  count_capped = leb (frame_at p.frames i).count p.settings.cap

  -- last steps below k
  abbrev pub last_below : Bool
  last_below = whenever used (ltb (frame_at p.frames i).last p.k)

  -- last steps distinct
  abbrev pub distinct_last : Bool
  distinct_last = whenever used (every_below (λ j. not (last_at (frame_at p.frames i).last (frame_at p.frames j))) i)

  -- each log within its length, strictly falling, no entry above its frame's last-step epoch, unused places zero
  abbrev pub access_log_sound : Bool
  access_log_sound = sound_log p.access (i * access_room) access_room (frame_at p.frames i).accesses (last_epoch_of p i)

  -- the write log likewise
  abbrev pub write_log_sound : Bool
  write_log_sound = sound_log p.write (i * write_room) write_room (frame_at p.frames i).writes (last_epoch_of p i)

  -- frames in use have a nonempty access log, dirty ones a nonempty write log
  abbrev pub logs_nonempty : Bool
  logs_nonempty = whenever used (ltb 0 (frame_at p.frames i).accesses) && whenever (frame_at p.frames i).dirty (ltb 0 (frame_at p.frames i).writes)

-- of every frame
abbrev pub each : (ℕ → Bool) → Bool
each ok = every_below ok frame_room

-- a pool is sound if its settings are in range; frames in use are the lowest-numbered, at most f, and hold distinct pages; unused frames are
-- all zero; hand below f; k at most 50,000; clock counts at most the cap; last steps below k and distinct; the logs sound and nonempty
unfoldable pub sound_pool : Pool → Bool
sound_pool p =
    in_range p.settings
    && (each (lowest p)
    && (each (within_frames p)
    && (each (distinct_page p)
    && (each (unused_zero p)
    && (ltb p.hand p.settings.frames
    && (leb p.k reference_limit
    && (each (count_capped p)
    && (each (last_below p)
    && (each (distinct_last p)
    && (each (access_log_sound p)
    && (each (write_log_sound p)
    && each (logs_nonempty p))))))))))))

-- 14: pool not sound
unfoldable pub pool_refusal : Pool → ℕ
pool_refusal p = demand (sound_pool p) not_sound 0

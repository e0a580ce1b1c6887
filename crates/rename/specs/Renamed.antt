-- Renaming pages: where ρ gives each page its new number, what a list, a pool, a trace, a row and an answer become.
use Rattle.std.specs.Prelude.{ℕ, Bool, List, map}
use Rattle.search.specs.Search.{pick}
use Rattle.word.specs.declared.Order.{Order}
use Rattle.trace.specs.Layout.{Trace, trace_from}
use Rattle.trace.specs.Encode.{encode}
use Rattle.trace.specs.Check.{trace_of}
use Rattle.pool.specs.declared.Frame.{Frame}
use Rattle.pool.specs.declared.Pool.{Pool}
use Rattle.pool.specs.Pool.{with_page, with_frames}
use Rattle.tally.specs.declared.Row.{Row}
use Rattle.tally.specs.Rows.{row, is_eviction}
use Rattle.replay.specs.declared.Ended.{Ended}
use Rattle.replay.specs.Replay.{Played}
use Rattle.replay.specs.Calls.{Stepped, ended_as}

module _ (ρ : ℕ → ℕ) where
  -- a list of pages, such as those of a trace or those written: each page
  abbrev pub renamed_pages : List ℕ → List ℕ
  renamed_pages pages = map ρ pages

  -- the page of a frame in use; an unused frame's 0 stays 0
  abbrev pub held_page : Bool → ℕ → ℕ
  held_page used page = pick used (ρ page) page

  -- a frame: its page
  abbrev pub renamed_frame : Frame → Frame
  renamed_frame fr = with_page fr (held_page fr.used fr.page)

  -- a pool: each frame
  abbrev pub renamed_pool : Pool → Pool
  renamed_pool p = with_frames p (map renamed_frame p.frames)

  -- a trace, written in an order: its pages
  abbrev pub renamed_trace : Order → Trace → Trace
  renamed_trace o t = trace_from t.settings o (renamed_pages t.pages) t.kinds

  -- the bytes of an accepted trace likewise
  abbrev pub renamed_bytes : Order → List ℕ → List ℕ
  renamed_bytes o s = encode (renamed_trace o (trace_of s))

  -- a row: the page that left, in outcomes 2 and 3; a 0 without a meaning stays 0
  abbrev pub renamed_row : Row → Row
  renamed_row w = row w.outcome w.frame (pick (is_eviction w) (ρ w.left) w.left) w.batch

  -- what a replay came to: its rows, the pages written, its end pool; the counts stay
  abbrev pub renamed_played : Played → Played
  renamed_played r = record { rows = map renamed_row r.rows; written = renamed_pages r.written; pool = renamed_pool r.pool; tally = r.tally }

  -- what a single step handed back: its row and its pool; refusal and counts stay
  abbrev pub renamed_stepped : Stepped → Stepped
  renamed_stepped r = record { refusal = r.refusal; row = renamed_row r.row; pool = renamed_pool r.pool; tally = r.tally }

  -- what a replay handed back: its pool; refusal and counts stay
  abbrev pub renamed_ended : Ended → Ended
  renamed_ended e = ended_as e.refusal (renamed_pool e.pool) e.tally

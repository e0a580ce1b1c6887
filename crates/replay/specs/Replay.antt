-- A replay: the records of a trace, one after the other.
use Rattle.std.specs.Prelude.{ℕ, zero, suc, List, [], ◌∷◌, ◌++◌, length}
use Rattle.trace.specs.Layout.{Trace, trace_from, record_in}
use Rattle.pool.specs.declared.Pool.{Pool}
use Rattle.tally.specs.declared.Row.{Row}
use Rattle.tally.specs.declared.Tally.{Tally}
use Rattle.tally.specs.Rows.{row_numbers}
use Rattle.tally.specs.Tally.{counted_by}
use Rattle.effect.specs.Record.{Did, record_of}

-- what a replay has come to: rows, pages written, in order, pool and tally
pub record Played : Type 0 where
  pub rows : List Row
  pub written : List ℕ
  pub pool : Pool
  pub tally : Tally

-- before the first record
abbrev pub started : Pool → Tally → Played
started p t = record { rows = []; written = []; pool = p; tally = t }

-- one record more: its row, its written pages, the pool afterwards, and the tally raised by it
abbrev pub after : Played → Did → Played
after r d = record { rows = r.rows ++ (d.row ∷ []); written = r.written ++ d.written; pool = d.pool; tally = counted_by r.tally d.row }

module _ (p : Pool) (t : Tally) (trace : Trace) where
  -- the first n records, each on the pool that the one before left; a refused record fills its row, and replay goes on
  unfoldable pub replay_to : ℕ → Played
  replay_to zero = started p t
  replay_to (suc n) =
      let r = replay_to n in
      after r (record_of r.pool (record_in trace n).page (record_in trace n).kind)

  -- all records
  abbrev pub replay_of : Played
  replay_of = replay_to (length trace.pages)

-- the records of one trace, then those of another
abbrev pub joined : Trace → Trace → Trace
joined a b = trace_from a.settings a.order (a.pages ++ b.pages) (a.kinds ++ b.kinds)

-- a replay, and another that went on from its pool and tally
abbrev pub gone_on : Played → Played → Played
gone_on r q = record { rows = r.rows ++ q.rows; written = r.written ++ q.written; pool = q.pool; tally = q.tally }

-- the numbers of rows, four each
unfoldable pub rows_numbers : List Row → List ℕ
rows_numbers [] = []
rows_numbers (w ∷ ws) = row_numbers w ++ rows_numbers ws

-- One trace in one order has one encoding: the bytes of the layout, in its order.
use Rattle.std.specs.Prelude.{ℕ, zero, suc, ◌≤◌, ◌<◌, List, [], ◌++◌, true, ◌≡◌, length, get_or}
use Rattle.word.specs.Number.{bytes_of}
use Rattle.word.specs.declared.Order.{Order}
use Rattle.word.specs.declared.Order.TheVariants.{High, Low}
use Rattle.settings.specs.Settings.{in_range, settings_bytes}
use Rattle.settings.specs.declared.Settings.{Settings}
use Rattle.trace.specs.Layout.{Trace, trace_from, edition, record_limit, header_length, file_length, mark_high, mark_low, known_kinds, writes_in}

-- the mark of an order
abbrev pub mark_bytes : Order → List ℕ
mark_bytes High = mark_high
mark_bytes Low = mark_low

-- before the settings: mark, edition, zero, record count, record offset, number of write records, file length
abbrev pub front_bytes : Order → ℕ → ℕ → List ℕ
front_bytes o n writes =
    mark_bytes o
    ++ bytes_of o 2 edition
    ++ bytes_of o 2 0
    ++ bytes_of o 4 n
    ++ bytes_of o 4 header_length
    ++ bytes_of o 4 writes
    ++ bytes_of o 4 (file_length n)

-- the header of n records of which some are writes; it ends in a zero
unfoldable pub header_bytes : Order → Settings → ℕ → ℕ → List ℕ
header_bytes o t n writes = front_bytes o n writes ++ settings_bytes o t ++ bytes_of o 4 0

-- a record: page, kind, zero
unfoldable pub record_bytes : Order → ℕ → ℕ → List ℕ
record_bytes o page kind = bytes_of o 4 page ++ bytes_of o 2 kind ++ bytes_of o 2 0

-- the first n records
abbrev pub records_to : Order → List ℕ → List ℕ → ℕ → List ℕ
records_to o pages kinds zero = []
records_to o pages kinds (suc i) = records_to o pages kinds i ++ record_bytes o (get_or pages i 0) (get_or kinds i 0)

-- the header, then the records
unfoldable pub encode : Trace → List ℕ
encode t =
    header_bytes t.order t.settings (length t.pages) (writes_in t.kinds) ++ records_to t.order t.pages t.kinds (length t.pages)

-- the other order
abbrev pub other : Order → Order
other High = Low
other Low = High

-- converting writes the same trace in the other order
abbrev pub turned : Trace → Trace
turned t = trace_from t.settings (other t.order) t.pages t.kinds

-- a trace that the layout can hold: lists of one length within the limit, known kinds, settings in range, pages and seed of 4 bytes
pub record Proper (t : Trace) : Type 0 where
  pub same : length t.pages ≡ length t.kinds
  pub few : length t.pages ≤ record_limit
  pub known : known_kinds t.kinds ≡ true
  pub range : in_range t.settings ≡ true
  pub seed : t.settings.seed < 4294967296
  pub page : (i : ℕ) → get_or t.pages i 0 < 4294967296

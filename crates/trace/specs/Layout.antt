-- Trace layout, edition 1: a header of counts and offsets, 48 bytes, then records of 8 bytes.
use Rattle.std.specs.Prelude.{ℕ, zero, suc, ◌+◌, ◌*◌, List, [], ◌∷◌, ◌++◌, Option, Some, None, Bool, true, ◌&&◌, get_or, eqb, leb}
use Rattle.word.specs.Number.{number_at}
use Rattle.word.specs.declared.Order.{Order}
use Rattle.word.specs.declared.Order.TheVariants.{High, Low}
use Rattle.search.specs.Search.{pick, one_if}
use Rattle.settings.specs.Settings.{settings_at}
use Rattle.settings.specs.declared.Settings.{Settings}
use Rattle.trace.specs.declared.Record.{Record}

-- the edition
abbrev pub edition : ℕ
edition = 1

-- the most records of a trace
abbrev pub record_limit : ℕ
record_limit = 8000

-- the header's length, and where the records begin
abbrev pub header_length : ℕ
header_length = 48

-- a record's length
abbrev pub record_length : ℕ
record_length = 8

-- the length of a file of n records
abbrev pub file_length : ℕ → ℕ
file_length n = header_length + record_length * n

-- the four bytes 01 02 03 04 for high byte first
abbrev pub mark_high : List ℕ
mark_high = 1 ∷ 2 ∷ 3 ∷ 4 ∷ []

-- 04 03 02 01 for low byte first
abbrev pub mark_low : List ℕ
mark_low = 4 ∷ 3 ∷ 2 ∷ 1 ∷ []

-- whether the first four bytes are those of a mark
abbrev pub begins : List ℕ → List ℕ → Bool
begins s m = eqb (get_or s 0 0) (get_or m 0 0) && (eqb (get_or s 1 0) (get_or m 1 0) && (eqb (get_or s 2 0) (get_or m 2 0) && eqb (get_or s 3 0) (get_or m 3 0)))

-- at 0, 4 bytes: the mark, which names an order, if it is one of the two
abbrev pub mark_of : List ℕ → Option Order
mark_of s = pick (begins s mark_high) (Some High) (pick (begins s mark_low) (Some Low) None)

-- at 4, 2 bytes: edition
abbrev pub edition_at : Order → List ℕ → ℕ
edition_at o s = number_at o 2 4 s

-- at 6, 2 bytes: zero
abbrev pub first_zero_at : Order → List ℕ → ℕ
first_zero_at o s = number_at o 2 6 s

-- at 8, 4 bytes: record count n
abbrev pub count_at : Order → List ℕ → ℕ
count_at o s = number_at o 4 8 s

-- at 12, 4 bytes: record offset
abbrev pub offset_at : Order → List ℕ → ℕ
offset_at o s = number_at o 4 12 s

-- at 16, 4 bytes: number of write records
abbrev pub writes_at : Order → List ℕ → ℕ
writes_at o s = number_at o 4 16 s

-- at 20, 4 bytes: file length
abbrev pub length_at : Order → List ℕ → ℕ
length_at o s = number_at o 4 20 s

-- from 24 to 43: the settings
abbrev pub settings_in : Order → List ℕ → Settings
settings_in o s = settings_at o 24 s

-- at 44, 4 bytes: zero
abbrev pub last_zero_at : Order → List ℕ → ℕ
last_zero_at o s = number_at o 4 44 s

-- record i stands where a file of i records ends: page (4 bytes, any number)
abbrev pub page_at : Order → List ℕ → ℕ → ℕ
page_at o s i = number_at o 4 (file_length i) s

-- kind (2)
abbrev pub kind_at : Order → List ℕ → ℕ → ℕ
kind_at o s i = number_at o 2 (file_length i + 4) s

-- zero (2)
abbrev pub zero_at : Order → List ℕ → ℕ → ℕ
zero_at o s i = number_at o 2 (file_length i + 6) s

-- the kinds: 0 read, 1 write, 2 pin, 3 unpin; 4 to 65,535 are bad
abbrev pub known_kind : ℕ → Bool
known_kind k = leb k 3

-- 1 for a write, else 0
abbrev pub is_write : ℕ → ℕ
is_write k = one_if (eqb k 1)

-- no kind of a list is bad
abbrev pub known_kinds : List ℕ → Bool
known_kinds [] = true
known_kinds (k ∷ ks) = known_kind k && known_kinds ks

-- how many kinds of a list are writes
abbrev pub writes_in : List ℕ → ℕ
writes_in [] = 0
writes_in (k ∷ ks) = is_write k + writes_in ks

-- each number of a list is zero
abbrev pub all_zero : List ℕ → Bool
all_zero [] = true
all_zero (z ∷ zs) = eqb z 0 && all_zero zs

-- f 0, f 1, .. , n of them
abbrev pub up_to : (ℕ → ℕ) → ℕ → List ℕ
up_to f zero = []
up_to f (suc n) = up_to f n ++ (f n ∷ [])

-- the pages of the records
abbrev pub pages_at : Order → List ℕ → List ℕ
pages_at o s = up_to (page_at o s) (count_at o s)

-- their kinds
abbrev pub kinds_at : Order → List ℕ → List ℕ
kinds_at o s = up_to (kind_at o s) (count_at o s)

-- their zero fields
abbrev pub zeros_at : Order → List ℕ → List ℕ
zeros_at o s = up_to (zero_at o s) (count_at o s)

-- a trace: settings, an order, a list of pages and a list of kinds
pub record Trace : Type 0 where
  pub settings : Settings
  pub order : Order
  pub pages : List ℕ
  pub kinds : List ℕ

-- the writer takes settings, an order, a list of pages and a list of kinds; the reader gives the same back
abbrev pub trace_from : Settings → Order → List ℕ → List ℕ → Trace
trace_from settings order pages kinds = record { settings = settings; order = order; pages = pages; kinds = kinds }

-- the trace that bytes in an order hold
unfoldable pub trace_at : Order → List ℕ → Trace
trace_at o s = trace_from (settings_in o s) o (pages_at o s) (kinds_at o s)

-- record i of a trace
abbrev pub record_in : Trace → ℕ → Record
record_in t i = record { page = get_or t.pages i 0; kind = get_or t.kinds i 0 }

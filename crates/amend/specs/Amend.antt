-- A trace taken as if its header said otherwise, and the trace of a text.
use Rattle.std.specs.Prelude.{ℕ, zero, suc, ◌≡◌, List, length, take, Result, Ok, Err}
use Rattle.word.specs.declared.Order.{Order}
use Rattle.refusal.specs.declared.Refusal.{Refusal}
use Rattle.refusal.specs.Refusals.{or_else, stored}
use Rattle.refusal.specs.Numbers.{number_of}
use Rattle.settings.specs.declared.Settings.{Settings}
use Rattle.settings.specs.Settings.{one_frame}
use Rattle.trace.specs.Layout.{Trace, trace_from, file_length, record_limit}
use Rattle.trace.specs.Encode.{encode}
use Rattle.trace.specs.Check.{refusal_of, trace_of, decode}
use Rattle.trace.specs.Check.Outcome.{Whole}
use Rattle.scribe.specs.Write.{write_refusal}
use Rattle.tally.specs.declared.Tally.{Tally}
use Rattle.tally.specs.Tally.{zero_tally}
use Rattle.fresh.specs.Fresh.{fresh_counts}
use Rattle.wish.specs.declared.Wish.{Wish}
use Rattle.wish.specs.Wish.{wished_settings, usual_settings}
use Rattle.text.specs.Text.{lines_in, first_bad, pages_in, kinds_in}
use Rattle.amend.specs.declared.Fault.{Fault}
use Rattle.amend.specs.declared.Fault.TheVariants.{BadLine as At-line, Refused as By-refusal}
use Rattle.amend.specs.declared.Sheet.{Sheet}
use Rattle.amend.specs.declared.Uncounted.{Uncounted}

-- the same records with the settings wished for
abbrev pub wished_trace : Wish → Trace → Trace
wished_trace w t = trace_from (wished_settings w t.settings) t.order t.pages t.kinds

-- read first, so that a refused trace is refused as it stands, then written with the other settings
unfoldable pub set_refusal : List ℕ → Wish → ℕ → ℕ
set_refusal s w room = or_else (refusal_of s) (write_refusal (wished_trace w (trace_of s)) room)

-- the trace with other settings on lent bytes: the answer, and every byte afterwards
pub record SetInto (s : List ℕ) (w : Wish) (out : List ℕ) (answer : ℕ) (out' : List ℕ) : Type 0 where
  pub answers : answer ≡ set_refusal s w (length out)
  pub bytes_hold : out' ≡ stored (set_refusal s w (length out)) (encode (wished_trace w (trace_of s))) out

-- where nothing is refused, what is stored is as long as the trace was, and decodes to the same records with the settings wished for
abbrev pub SetsBack : List ℕ → Wish → ℕ → List ℕ → Type 0
SetsBack s w answer out = answer ≡ 0 → decode (take (length s) out) ≡ Whole (wished_trace w (trace_of s))

-- the trace of a text: the settings wished for, else the defaults
abbrev pub trace_in : List ℕ → Wish → Order → Trace
trace_in text w order = trace_from (wished_settings w usual_settings) order (pages_in (lines_in text)) (kinds_in (lines_in text))

-- what comes of a text: its first bad line, the trace's refusal, or how many bytes the trace has
pub data Imported : Type 0 where
  BadLine : ℕ → Imported
  Refused : ℕ → Imported
  Written : ℕ → Imported

-- what a call answered
abbrev pub imported_by : Result ℕ Fault → Imported
imported_by (Ok n) = Written n
imported_by (Err (At-line line)) = BadLine line
imported_by (Err (By-refusal refusal)) = Refused (number_of refusal)

-- the first bad line, else the writer's refusal, else how long the trace is
abbrev pub imported : ℕ → ℕ → ℕ → Imported
imported (suc line) refusal size = BadLine (suc line)
imported zero (suc r) size = Refused (suc r)
imported zero zero size = Written size

-- the trace of a text on lent bytes: the answer, and every byte afterwards
pub record ImportedInto (text : List ℕ) (w : Wish) (order : Order) (out : List ℕ) (answer : Imported) (out' : List ℕ) : Type 0 where
  pub answers : answer ≡ imported (first_bad 0 (lines_in text)) (write_refusal (trace_in text w order) (length out)) (file_length (length (pages_in (lines_in text))))
  pub bytes_hold : out' ≡ stored (or_else (first_bad 0 (lines_in text)) (write_refusal (trace_in text w order) (length out))) (encode (trace_in text w order)) out

-- where nothing is refused, what is stored decodes to the text's records
abbrev pub ImportsBack : List ℕ → Wish → Order → Imported → List ℕ → Type 0
ImportsBack text w order answer out = (n : ℕ) → answer ≡ Written n → decode (take n out) ≡ Whole (trace_in text w order)

-- what a sheet says: the refusal or 0; settings, number of records and counts
pub record Counted : Type 0 where
  pub refusal : ℕ
  pub settings : Settings
  pub count : ℕ
  pub tally : Tally

-- a sheet, beside a refusal or 0
abbrev pub counted : ℕ → Sheet → Counted
counted r sheet = record { refusal = r; settings = sheet.settings; count = sheet.count; tally = sheet.tally }

-- nothing is counted of what is refused: the least settings, no record, no count
abbrev pub no_sheet : Sheet
no_sheet = record { settings = one_frame; count = 0; tally = zero_tally }

abbrev pub not_counted : ℕ → Counted
not_counted r = counted r no_sheet

-- what a refused call hands back
abbrev pub refused_sheet : Refusal → Uncounted
refused_sheet r = record { refusal = r; sheet = no_sheet }

-- what a call answered
abbrev pub counted_by : Result Sheet Uncounted → Counted
counted_by (Ok sheet) = counted 0 sheet
counted_by (Err u) = counted (number_of u.refusal) u.sheet

-- the numbers of a sheet, from a fresh pool
unfoldable pub sheet_by : ℕ → Trace → Counted
sheet_by zero t = record { refusal = 0; settings = t.settings; count = length t.pages; tally = fresh_counts t }
sheet_by (suc r) t = not_counted (suc r)

-- the numbers of a trace's sheet
abbrev pub sheet_of : List ℕ → Counted
sheet_of s = sheet_by (refusal_of s) (trace_of s)

-- the same as if the header said otherwise
abbrev pub sheet_with : List ℕ → Wish → Counted
sheet_with s w = sheet_by (set_refusal s w (file_length record_limit)) (wished_trace w (trace_of s))

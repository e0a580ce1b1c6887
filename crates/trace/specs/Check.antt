-- Trace checks run 1 to 8 in that order; what the checker and the reader answer.
use Rattle.std.specs.Prelude.{ℕ, zero, suc, List, Option, Some, None, Bool, ◌&&◌, ◌≡◌, length, take, eqb, leb}
use Rattle.word.specs.declared.Order.{Order}
use Rattle.word.specs.declared.Order.TheVariants.{High}
use Rattle.refusal.specs.Refusals.{demand, or_else, stored, too_short, unknown_mark, other_edition, too_many, wrong_length, bad_field, wrong_writes, out_of_range, no_room}
use Rattle.settings.specs.Settings.{in_range}
use Rattle.trace.specs.Layout.{Trace, trace_from, edition, record_limit, header_length, file_length, mark_of, edition_at, first_zero_at, count_at, offset_at, writes_at, length_at, settings_in, last_zero_at, kinds_at, zeros_at, known_kinds, writes_in, all_zero, trace_at}
use Rattle.trace.specs.Encode.{encode, Proper}
use Rattle.trace.specs.declared.Summary.{Summary}

-- offset, length field and actual length
abbrev pub lengths_right : Order → List ℕ → Bool
lengths_right o s =
    eqb (offset_at o s) header_length && (eqb (length_at o s) (file_length (count_at o s)) && eqb (length s) (file_length (count_at o s)))

-- refusals 3 to 5: edition, record count, offset and lengths
unfoldable pub layout_refusal : Order → List ℕ → ℕ
layout_refusal o s =
    demand (eqb (edition_at o s) edition) other_edition
    (demand (leb (count_at o s) record_limit) too_many
    (demand (lengths_right o s) wrong_length 0))

-- the zero fields of the header and of the records
abbrev pub zeros_right : Order → List ℕ → Bool
zeros_right o s = eqb (first_zero_at o s) 0 && (eqb (last_zero_at o s) 0 && all_zero (zeros_at o s))

-- refusals 6 to 8: zero fields and kinds, number of writes, settings
unfoldable pub content_refusal : Order → List ℕ → ℕ
content_refusal o s =
    demand (zeros_right o s && known_kinds (kinds_at o s)) bad_field
    (demand (eqb (writes_at o s) (writes_in (kinds_at o s))) wrong_writes
    (demand (in_range (settings_in o s)) out_of_range 0))

-- refusals 3 to 8 of bytes in a known order
unfoldable pub refusal_in : Order → List ℕ → ℕ
refusal_in o s = or_else (layout_refusal o s) (content_refusal o s)

-- refusals 2 to 8
abbrev pub refusal_marked : Option Order → List ℕ → ℕ
refusal_marked (Some o) s = refusal_in o s
refusal_marked None s = unknown_mark

-- the refusal of a trace, 1 to 8, or 0
unfoldable pub refusal_of : List ℕ → ℕ
refusal_of s = demand (leb header_length (length s)) too_short (refusal_marked (mark_of s) s)

-- the order that a mark names; without one it has no meaning
abbrev pub order_marked : Option Order → Order
order_marked (Some o) = o
order_marked None = High

-- the trace that bytes hold; where they are refused it has no meaning
unfoldable pub trace_of : List ℕ → Trace
trace_of s = trace_at (order_marked (mark_of s)) s

-- what a call comes to: a whole trace, or a refusal
pub data Outcome : Type 0 where
  Whole : Trace → Outcome
  Faulty : ℕ → Outcome

-- the trace where nothing is refused
abbrev pub outcome : ℕ → Trace → Outcome
outcome zero t = Whole t
outcome (suc r) t = Faulty (suc r)

-- reading a trace
unfoldable pub decode : List ℕ → Outcome
decode s = outcome (refusal_of s) (trace_of s)

-- settings, order and record count of a trace
abbrev pub summary_of : Trace → Summary
summary_of t = record { settings = t.settings; order = t.order; count = length t.pages }

-- an answer of the checker: refused by a number, or accepted with a summary
pub data Checked : Type 0 where
  Refused : ℕ → Checked
  Accepted : Summary → Checked

-- accepted with settings, order and record count, or refused
abbrev pub checked : Outcome → Checked
checked (Whole t) = Accepted (summary_of t)
checked (Faulty r) = Refused r

-- the number of an answer: 0, or the refusal
abbrev pub number_of_answer : Checked → ℕ
number_of_answer (Accepted h) = 0
number_of_answer (Refused r) = r

-- the checker's answer
unfoldable pub check_of : List ℕ → Checked
check_of s = checked (decode s)

-- all that other layers may use of a trace that the checker accepts
pub record Promised (s : List ℕ) (h : Summary) : Type 0 where
  pub decodes : decode s ≡ Whole (trace_of s)
  pub summary : h ≡ summary_of (trace_of s)
  pub holds : Proper (trace_of s)

-- what an answer of the checker promises
abbrev pub Promises : List ℕ → Checked → Type 0
Promises s answer = (h : Summary) → answer ≡ Accepted h → Promised s h

-- the reader needs n places in each list: after the trace's refusals 13
unfoldable pub read_refusal : List ℕ → ℕ → ℕ → ℕ
read_refusal s pages kinds =
    or_else (refusal_of s) (demand (leb (length (trace_of s).pages) pages && leb (length (trace_of s).kinds) kinds) no_room 0)

-- what the reader comes to, where it is lent so many places for pages and for kinds
abbrev pub read_of : List ℕ → ℕ → ℕ → Outcome
read_of s pages kinds = outcome (read_refusal s pages kinds) (trace_of s)

-- the reader on lent lists: its answer, and every place of both lists afterwards
pub record ReadInto (s pages kinds : List ℕ) (answer : Checked) (pages' kinds' : List ℕ) : Type 0 where
  pub answers : answer ≡ checked (read_of s (length pages) (length kinds))
  pub pages_hold : pages' ≡ stored (read_refusal s (length pages) (length kinds)) (trace_of s).pages pages
  pub kinds_hold : kinds' ≡ stored (read_refusal s (length pages) (length kinds)) (trace_of s).kinds kinds

-- reading, then writing: where the reader accepts, what it gives has the encoding that was read
abbrev pub WritesAgain : List ℕ → Checked → List ℕ → List ℕ → Type 0
WritesAgain s answer pages kinds =
    (h : Summary) → answer ≡ Accepted h → encode (trace_from h.settings h.order (take h.count pages) (take h.count kinds)) ≡ s

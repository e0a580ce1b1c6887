-- A trace as text: a line for each record, a kind, one space and a number.
use Rattle.std.specs.Prelude.{ℕ, zero, suc, ◌*◌, ◌/◌, Bool, true, false, ◌&&◌, Option, Some, None, Result, Ok, Err, List, [], ◌∷◌, ◌++◌, map, ◌≡◌, eqb, leb, ltb, length, drop, get_or}
use Rattle.io.specs.Digits.{last_digits}
use Rattle.search.specs.Search.{pick}
use Rattle.refusal.specs.declared.Refusal.{Refusal}
use Rattle.refusal.specs.Numbers.{number_of}
use Rattle.refusal.specs.Refusals.{demand, or_else, stored, no_room}
use Rattle.trace.specs.Layout.{Trace}
use Rattle.trace.specs.Check.{refusal_of, trace_of}
use Rattle.numeral.specs.Numeral.{number_limit, numeral_of}
use Rattle.text.specs.declared.Line.{Line}
use Rattle.text.specs.declared.Line.TheVariants.{Passed, Record, Bad}

-- the line feed, the space, and the sign that begins a remark
abbrev pub line_feed : ℕ
line_feed = 10

abbrev pub space : ℕ
space = 32

abbrev pub remark : ℕ
remark = 35

-- the kinds' words, each with the one space behind it: 0 read, 1 write, 2 pin, 3 unpin
abbrev pub word_of : ℕ → List ℕ
word_of zero = 114 ∷ 101 ∷ 97 ∷ 100 ∷ space ∷ []
word_of (suc zero) = 119 ∷ 114 ∷ 105 ∷ 116 ∷ 101 ∷ space ∷ []
word_of (suc (suc zero)) = 112 ∷ 105 ∷ 110 ∷ space ∷ []
word_of (suc (suc (suc k))) = 117 ∷ 110 ∷ 112 ∷ 105 ∷ 110 ∷ space ∷ []

-- whether a line begins with a word
abbrev pub begins_with : List ℕ → List ℕ → Bool
begins_with [] line = true
begins_with (w ∷ ws) [] = false
begins_with (w ∷ ws) (c ∷ line) = eqb w c && begins_with ws line

-- empty lines and those that begin with `#` are passed over
abbrev pub is_passed : List ℕ → Bool
is_passed [] = true
is_passed (c ∷ line) = eqb c remark

-- a record of a kind: what stands behind the space is a number below 4,294,967,296
abbrev pub record_line : ℕ → Option ℕ → Line
record_line kind (Some n) = pick (ltb n number_limit) (Record kind n) Bad
record_line kind None = Bad

-- the record of a kind where a line begins with the kind's word, else what it is otherwise
abbrev pub record_if : ℕ → List ℕ → List ℕ → Line → Line
record_if kind word line otherwise = pick (begins_with word line) (record_line kind (numeral_of (drop (length word) line))) otherwise

-- the line tried as one of a kind
abbrev pub as_kind : ℕ → List ℕ → Line → Line
as_kind kind = record_if kind (word_of kind)

-- what a line is: passed over, a record, or bad
unfoldable pub line_of : List ℕ → Line
line_of line = pick (is_passed line) Passed (as_kind 0 line (as_kind 1 line (as_kind 2 line (as_kind 3 line Bad))))

-- a character before the first line of some
abbrev pub before : ℕ → List (List ℕ) → List (List ℕ)
before c [] = (c ∷ []) ∷ []
before c (line ∷ lines) = (c ∷ line) ∷ lines

-- the lines of a text: each ends in a line feed, which the last may lack
unfoldable pub lines_of : List ℕ → List (List ℕ)
lines_of [] = []
lines_of (c ∷ text) = pick (eqb c line_feed) ([] ∷ lines_of text) (before c (lines_of text))

-- what each line of a text is
unfoldable pub lines_in : List ℕ → List Line
lines_in text = map line_of (lines_of text)

-- whether a line is bad
abbrev pub is_bad : Line → Bool
is_bad Passed = false
is_bad (Record kind page) = false
is_bad Bad = true

-- the number of the first bad line behind so many others (1 is the first), or 0
unfoldable pub first_bad : ℕ → List Line → ℕ
first_bad n [] = 0
first_bad n (line ∷ lines) = or_else (pick (is_bad line) (suc n) 0) (first_bad (suc n) lines)

-- a line by its number, or none by 0
abbrev pub line_numbered : ℕ → Option ℕ
line_numbered zero = None
line_numbered (suc n) = Some (suc n)

-- the page of a line that is a record
abbrev pub page_of : Line → List ℕ
page_of Passed = []
page_of (Record kind page) = page ∷ []
page_of Bad = []

-- its kind
abbrev pub kind_of : Line → List ℕ
kind_of Passed = []
kind_of (Record kind page) = kind ∷ []
kind_of Bad = []

-- what lines give, one after the other
unfoldable pub numbers_in : (Line → List ℕ) → List Line → List ℕ
numbers_in f [] = []
numbers_in f (line ∷ lines) = f line ++ numbers_in f lines

-- the pages of the records, and their kinds
abbrev pub pages_in : List Line → List ℕ
pages_in = numbers_in page_of

abbrev pub kinds_in : List Line → List ℕ
kinds_in = numbers_in kind_of

-- a text without a bad line has these pages and kinds
pub record ReadsAs (text pages kinds : List ℕ) : Type 0 where
  pub good : first_bad 0 (lines_in text) ≡ 0
  pub pages_are : pages_in (lines_in text) ≡ pages
  pub kinds_are : kinds_in (lines_in text) ≡ kinds

-- how many digits a number has, up to one more than so many
abbrev pub places : ℕ → ℕ → ℕ
places zero n = 1
places (suc more) n = pick (ltb n 10) 1 (suc (places more (n / 10)))

-- a number of 4 bytes in its decimal digits
unfoldable pub decimal_of : ℕ → List ℕ
decimal_of n = last_digits 10 (places 9 n) n

-- the line of a record, with its line feed
unfoldable pub line_text : ℕ → ℕ → List ℕ
line_text kind page = word_of kind ++ (decimal_of page ++ (line_feed ∷ []))

-- the bytes of the longest line
abbrev pub line_room : ℕ
line_room = 17

-- the lines of the first n records
unfoldable pub text_to : List ℕ → List ℕ → ℕ → List ℕ
text_to pages kinds zero = []
text_to pages kinds (suc i) = text_to pages kinds i ++ line_text (get_or kinds i 0) (get_or pages i 0)

-- a trace as text: a line for each record
unfoldable pub text_of : Trace → List ℕ
text_of t = text_to t.pages t.kinds (length t.pages)

-- after the trace's refusals 13: the longest line for each record
unfoldable pub export_refusal : List ℕ → ℕ → ℕ
export_refusal s room = or_else (refusal_of s) (demand (leb (line_room * length (trace_of s).pages) room) no_room 0)

-- what comes of a trace as text: its refusal, or how many bytes the text has
pub data Exported : Type 0 where
  Refused : ℕ → Exported
  Written : ℕ → Exported

-- what a call answered
abbrev pub exported_by : Result ℕ Refusal → Exported
exported_by (Ok n) = Written n
exported_by (Err r) = Refused (number_of r)

-- how long the text is, or the refusal
abbrev pub exported : ℕ → List ℕ → Exported
exported zero text = Written (length text)
exported (suc r) text = Refused (suc r)

-- a trace as text on lent bytes: the answer, and every byte afterwards
pub record ExportedInto (s out : List ℕ) (answer : Exported) (out' : List ℕ) : Type 0 where
  pub answers : answer ≡ exported (export_refusal s (length out)) (text_of (trace_of s))
  pub bytes_hold : out' ≡ stored (export_refusal s (length out)) (text_of (trace_of s)) out

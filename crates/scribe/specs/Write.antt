-- The writer and the converter: their refusals in order, and what they store.
use Rattle.std.specs.Prelude.{ℕ, List, ◌&&◌, ◌≡◌, length, take, eqb, leb}
use Rattle.refusal.specs.Refusals.{demand, or_else, stored, too_many, wrong_length, bad_field, out_of_range, no_room}
use Rattle.settings.specs.Settings.{in_range}
use Rattle.trace.specs.Layout.{Trace, record_limit, file_length, known_kinds}
use Rattle.trace.specs.Encode.{encode, turned}
use Rattle.trace.specs.Check.{refusal_of, trace_of, decode}
use Rattle.trace.specs.Check.Outcome.{Whole}

-- the writer checks 4 (longer list), 5, 6, 8, 13, where it is lent so many bytes
unfoldable pub write_refusal : Trace → ℕ → ℕ
write_refusal t room =
    demand (leb (length t.pages) record_limit && leb (length t.kinds) record_limit) too_many
    (demand (eqb (length t.pages) (length t.kinds)) wrong_length
    (demand (known_kinds t.kinds) bad_field
    (demand (in_range t.settings) out_of_range
    (demand (leb (file_length (length t.pages)) room) no_room 0))))

-- the writer on lent bytes: its answer, and every byte afterwards
pub record WrittenTo (t : Trace) (out : List ℕ) (answer : ℕ) (out' : List ℕ) : Type 0 where
  pub answers : answer ≡ write_refusal t (length out)
  pub bytes_hold : out' ≡ stored (write_refusal t (length out)) (encode t) out

-- writing, then reading: where the writer refuses nothing, what it stored decodes to what it was given
abbrev pub ReadsBack : Trace → ℕ → List ℕ → Type 0
ReadsBack t answer out = answer ≡ 0 → decode (take (file_length (length t.pages)) out) ≡ Whole t

-- converting writes the same trace in the other order
unfoldable pub converted : Trace → List ℕ
converted t = encode (turned t)

-- the converter needs the file length: after the trace's refusals 13
unfoldable pub convert_refusal : List ℕ → ℕ → ℕ
convert_refusal s room = or_else (refusal_of s) (demand (leb (length s) room) no_room 0)

-- the converter on lent bytes: its answer, and every byte afterwards
pub record ConvertedTo (s out : List ℕ) (answer : ℕ) (out' : List ℕ) : Type 0 where
  pub answers : answer ≡ convert_refusal s (length out)
  pub bytes_hold : out' ≡ stored (convert_refusal s (length out)) (converted (trace_of s)) out

-- converting, then converting again: where the converter refuses nothing, what it stored decodes to the same trace in the other order,
-- and that converts to the first bytes
abbrev pub ConvertsBack : List ℕ → ℕ → List ℕ → Type 0
ConvertsBack s answer out =
    answer ≡ 0 → (decode (take (length s) out) ≡ Whole (turned (trace_of s))) × (converted (turned (trace_of s)) ≡ s)

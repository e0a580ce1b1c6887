-- One call after the other: a text becomes a trace, and the trace a text with the same records; setting nothing changes nothing.
use mathlib.Core.Path.{◌≡◌, refl, sym, ◌∙◌}
use mathlib.Core.List.{List}
use Prim.Native.Nat.{ℕ, zero, suc, ◌*◌, ◌≤◌}
use native.Mathlib.Omega.{arith}
use lib.ListN.{length, take}
use lib.Seq.{sets}
use borrow.Author.Tests.{leb-true, le-leb, eq-eqb}
use mathlib.Core.Bool.{false}
use lib.Dec.{leb}
use Rattle.std.specs.Prelude.{Result}
use Rattle.word.specs.declared.Order.{Order}
use Rattle.word.proofs.Laws.{Bytes, sets_front}
use Rattle.refusal.specs.Refusals.{demand, no_room, out_of_range}
use Rattle.refusal.specs.declared.Refusal.{Refusal}
use Rattle.refusal.specs.Numbers.{answer_of}
use Rattle.settings.specs.Settings.{the_fields, settings_numbers}
use Rattle.trace.specs.Layout.{record_limit}
use Rattle.refusal.proofs.Laws.{met, neither, answer_one}
use Rattle.trace.specs.Check.{refusal_of, trace_of}
use Rattle.trace.proofs.Whole.{proper, encode_trace, decode_whole}
use Rattle.scribe.specs.Write.{write_refusal}
use Rattle.wish.specs.declared.Wish.{Wish}
use Rattle.wish.specs.Wish.{no_wish, chosen_from, fit_fields, wished_settings}
use Rattle.wish.proofs.Laws.{no_wish_lem, unfit}
use Rattle.text.specs.Text.Exported.{Written as Exported-as-Written}
use Rattle.text.specs.Text.{lines_in, pages_in, kinds_in, line_room, text_of, exported, export_refusal, ExportedInto, ReadsAs}
use Rattle.text.proofs.Storing.{text_long}
use Rattle.text.proofs.Round.{text_back}
use Rattle.amend.specs.declared.Fault.{Fault}
use Rattle.amend.specs.Amend.{Imported}
use Rattle.amend.specs.Amend.Imported.{Written}
use Rattle.amend.specs.Amend.{wished_trace, set_refusal, SetInto, trace_in, imported_by, ImportedInto, ImportsBack}
use Rattle.amend.proofs.Laws.{imported_one}

-- an export that is not refused stores the whole text, and it fits
exported_whole : (r m : ℕ) (text : List ℕ) → Exported-as-Written m ≡ exported r text → (r ≡ 0) × (m ≡ length text)
exported_whole zero m text e = (refl, cc)
exported_whole (suc r) m text e = absurd (let z : ◌≡◌ {A = ℕ} 0 1 = cc in omega arith)

-- where export refuses nothing, its text reads as the records of the trace
pub export_reads : (s out : List ℕ) (m : ℕ) (out' : List ℕ) → Bytes s → ExportedInto s out (Exported-as-Written m) out' → ReadsAs (take m out') (trace_of s).pages (trace_of s).kinds
unfolding export_refusal
export_reads s out m out' bs i =
    let t = trace_of s in
    let fits = leb (line_room * length t.pages) (length out) in
    let w = exported_whole (export_refusal s (length out)) m (text_of t) i.answers in
    let n = neither (refusal_of s) (demand fits no_room 0) w.0 in
    let room = leb-true (line_room * length t.pages) (length out) (met fits no_room 0 (omega arith) n.1).0 in
    let held = proper s bs n.0 in
    let short = text_long t in
    let whole : take m out' ≡ text_of t = rw (i.bytes_hold, w.0) (sets_front out (text_of t) m (sym w.1) (omega (arith, w.1))) in
    rw whole (text_back t held)

-- import, then export of what it stored: a text with the records of the first
pub import_export : (text : List ℕ) (w : Wish) (order : Order) (answer : Imported) (bytes : List ℕ) (n : ℕ) (out : List ℕ) (m : ℕ) (out' : List ℕ)
    → ImportsBack text w order answer bytes → answer ≡ Written n → Bytes (take n bytes) → ExportedInto (take n bytes) out (Exported-as-Written m) out'
    → ReadsAs (take m out') (pages_in (lines_in text)) (kinds_in (lines_in text))
import_export text w order answer bytes n out m out' back e bs i =
    let t = (decode_whole (take n bytes) (trace_in text w order) (back n e)).1 in
    rw t at (export_reads (take n bytes) out m out' bs i)

-- set with no wish: the first bytes again
pub set_nothing : (s out : List ℕ) (r : ℕ) (out' : List ℕ) → Bytes s → SetInto s no_wish out r out' → r ≡ 0 → out' ≡ sets out 0 s
unfolding set_refusal
set_nothing s out r out' bs i z =
    let none = sym i.answers ∙ z in
    let n = neither (refusal_of s) (write_refusal (wished_trace no_wish (trace_of s)) (length out)) none in
    let held = proper s bs n.0 in
    let same : wished_trace no_wish (trace_of s) ≡ trace_of s = rw (no_wish_lem (trace_of s).settings held.range held.seed) in
    i.bytes_hold ∙ rw (none, same, encode_trace s bs n.0)

-- any two outcomes that a contract allows are the same
pub set_one : (s : List ℕ) (w : Wish) (out : List ℕ) (a b : ℕ) (out₁ out₂ : List ℕ) → SetInto s w out a out₁ → SetInto s w out b out₂ → (a ≡ b) × (out₁ ≡ out₂)
set_one s w out a b out₁ out₂ x y = (x.answers ∙ sym y.answers, x.bytes_hold ∙ sym y.bytes_hold)

pub import_one : (text : List ℕ) (w : Wish) (order : Order) (out : List ℕ) (a b : Imported) (out₁ out₂ : List ℕ)
    → ImportedInto text w order out a out₁ → ImportedInto text w order out b out₂ → (a ≡ b) × (out₁ ≡ out₂)
import_one text w order out a b out₁ out₂ x y = (x.answers ∙ sym y.answers, x.bytes_hold ∙ sym y.bytes_hold)

-- and so are any two answers of the calls
pub set_answer_one : (s : List ℕ) (w : Wish) (out : List ℕ) (a b : Result (Unit {0}) Refusal) (out₁ out₂ : List ℕ)
    → SetInto s w out (answer_of a) out₁ → SetInto s w out (answer_of b) out₂ → (a ≡ b) × (out₁ ≡ out₂)
set_answer_one s w out a b out₁ out₂ x y = let e = set_one s w out (answer_of a) (answer_of b) out₁ out₂ x y in (answer_one a b e.0, e.1)

pub import_answer_one : (text : List ℕ) (w : Wish) (order : Order) (out : List ℕ) (a b : Result ℕ Fault) (out₁ out₂ : List ℕ)
    → ImportedInto text w order out (imported_by a) out₁ → ImportedInto text w order out (imported_by b) out₂ → (a ≡ b) × (out₁ ≡ out₂)
import_answer_one text w order out a b out₁ out₂ x y = let e = import_one text w order out (imported_by a) (imported_by b) out₁ out₂ x y in (imported_one a b e.0, e.1)

-- a number too great for its field is refused 8 for every trace that is accepted, with room for it
pub too_great : (s : List ℕ) (w : Wish) (room : ℕ) → Bytes s → refusal_of s ≡ 0 → fit_fields the_fields (chosen_from w 0 (settings_numbers the_fields (trace_of s).settings)) ≡ false
    → set_refusal s w room ≡ out_of_range
unfolding set_refusal write_refusal wished_settings
too_great s w room bs z h =
    let t = trace_of s in
    let held = proper s bs z in
    let few : length t.kinds ≤ record_limit = rw (← held.same) held.few in
    rw (
      z,
      le-leb (length t.pages) record_limit held.few,
      le-leb (length t.kinds) record_limit few,
      eq-eqb (length t.pages) (length t.kinds) held.same,
      held.known,
      unfit (chosen_from w 0 (settings_numbers the_fields t.settings)) h,
    )

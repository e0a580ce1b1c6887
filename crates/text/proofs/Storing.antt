-- A trace's lines as they are stored.
use mathlib.Core.Path.{◌≡◌, refl, sym, ap, ◌∙◌}
use mathlib.Core.List.{List, [], ◌∷◌, ◌++◌}
use Prim.Native.Nat.{ℕ, zero, suc, ◌+◌, ◌*◌, ◌≤◌, ◌<◌}
use native.Mathlib.Nat.{zero-add}
use native.Mathlib.Numerals.{add-one}
use native.Mathlib.Omega.{arith}
use lib.ListN.{length, get_or, length-append}
use lib.Seq.{sets}
use borrow.Author.Tests.{le-leb, lt-leb}
use Rattle.std.specs.Prelude.{Result, Ok, Err}
use Rattle.word.proofs.Laws.{sets_append}
use Rattle.refusal.specs.Refusals.{no_room}
use Rattle.refusal.specs.declared.Refusal.{Refusal}
use Rattle.refusal.proofs.Laws.{number_injective}
use Rattle.trace.specs.Layout.{Trace}
use Rattle.trace.specs.declared.Summary.{Summary}
use Rattle.trace.specs.Check.Checked.{Accepted, Refused}
use Rattle.trace.specs.Check.{refusal_of, check_of, trace_of}
use Rattle.trace.proofs.Accept.{accepted, counts_are, refused_is}
use Rattle.text.specs.Text.Exported.{Written, Refused as Exported-as-Refused}
use Rattle.text.specs.Text.{line_feed, word_of, decimal_of, line_text, line_room, text_to, text_of, export_refusal, Exported, exported_by, ExportedInto}
use Rattle.text.proofs.Decimal.{decimal_few}

pub word_short : (kind : ℕ) → length (word_of kind) ≤ 6
word_short zero = omega arith
word_short (suc zero) = omega arith
word_short (suc (suc zero)) = omega arith
word_short (suc (suc (suc k))) = omega arith

pub word_last : (kind : ℕ) → 3 ≤ kind → word_of kind ≡ word_of 3
word_last zero h = absurd (omega arith)
word_last (suc zero) h = absurd (omega arith)
word_last (suc (suc zero)) h = absurd (omega arith)
word_last (suc (suc (suc k))) h = refl

line_long : (kind page : ℕ) → length (line_text kind page) ≡ length (word_of kind) + (length (decimal_of page) + 1)
unfolding line_text
line_long kind page = length-append (word_of kind) (decimal_of page ++ (line_feed ∷ [])) ∙ rw (length-append (decimal_of page) (line_feed ∷ []))

-- word, digits and line feed, one after the other
pub line_stores : (kind page at behind end next : ℕ) (out out₁ out₂ out₃ : List ℕ) → behind ≡ at + length (word_of kind) → out₁ ≡ sets out at (word_of kind)
    → end ≡ behind + length (decimal_of page) → out₂ ≡ sets out₁ behind (decimal_of page) → next ≡ end + 1 → out₃ ≡ sets out₂ end (line_feed ∷ [])
    → ((next ≡ at + length (line_text kind page)) × (next ≤ at + line_room)) × (out₃ ≡ sets out at (line_text kind page))
unfolding line_text
line_stores kind page at behind end next out out₁ out₂ out₃ b o₁ e o₂ n o₃ =
    let w = word_of kind in
    let d = decimal_of page in
    let long = line_long kind page in
    let short = word_short kind in
    let few = decimal_few page in
    ((omega arith, omega arith), o₃ ∙ rw (o₂, e, o₁, b) (sym (sets_append w (d ++ (line_feed ∷ [])) out at ∙ sets_append d (line_feed ∷ []) (sets out at w) (at + length w))))

-- a turn of the loop over the records
pub text_more : (pages kinds out₀ out out' : List ℕ) (i at next page kind : ℕ) → at ≡ length (text_to pages kinds i) → out ≡ sets out₀ 0 (text_to pages kinds i)
    → page ≡ get_or pages i 0 → kind ≡ get_or kinds i 0 → next ≡ at + length (line_text kind page) → out' ≡ sets out at (line_text kind page)
    → (next ≡ length (text_to pages kinds (i + 1))) × (out' ≡ sets out₀ 0 (text_to pages kinds (i + 1)))
unfolding text_to
text_more pages kinds out₀ out out' i at next page kind a o p k n o' =
    let t = text_to pages kinds i in
    let l = line_text (get_or kinds i 0) (get_or pages i 0) in
    (rw (n, a, p, k, add-one) (sym (length-append t l)), rw (o', o, a, p, k, add-one) (sym (sets_append t l out₀ 0 ∙ rw zero-add)))

pub text_none : (pages kinds out : List ℕ) → (0 ≡ length (text_to pages kinds 0)) × (out ≡ sets out 0 (text_to pages kinds 0))
unfolding text_to
text_none pages kinds out = (refl, refl)

-- ---- the calls

module _ (s out : List ℕ) where
  pub export_refused : (r : ℕ) → check_of s ≡ Refused r → ExportedInto s out (Exported-as-Refused r) out
  unfolding export_refusal
  export_refused r e = let f = refused_is s r e in go r f.0 f.1
    where
      go : (n : ℕ) → refusal_of s ≡ n → (n ≡ 0 → ⊥) → ExportedInto s out (Exported-as-Refused n) out
      go zero h ne = absurd (ne refl)
      go (suc n) h ne = record { answers = rw h; bytes_hold = rw h }

  module _ (h : Summary) (e : check_of s ≡ Accepted h) where
    pub export_no_room : length out < line_room * h.count → ExportedInto s out (Exported-as-Refused no_room) out
    unfolding export_refusal
    export_no_room l =
        let n = (counts_are s h e).0 in
        let t : length out < line_room * length (trace_of s).pages = rw n l in
        record { answers = rw ((accepted s h e).0, lt-leb _ _ t); bytes_hold = rw ((accepted s h e).0, lt-leb _ _ t) }

    pub export_whole : (n : ℕ) (out' : List ℕ) → line_room * h.count ≤ length out → n ≡ length (text_of (trace_of s)) → out' ≡ sets out 0 (text_of (trace_of s)) → ExportedInto s out (Written n) out'
    unfolding export_refusal
    export_whole n out' l w o =
        let c = (counts_are s h e).0 in
        let t : line_room * length (trace_of s).pages ≤ length out = rw c l in
        record { answers = rw ((accepted s h e).0, le-leb _ _ t, w); bytes_hold = o ∙ rw ((accepted s h e).0, le-leb _ _ t) }

-- a text is no longer than the longest line for each record
to_long : (pages kinds : List ℕ) (i : ℕ) → length (text_to pages kinds i) ≤ line_room * i
unfolding text_to
to_long pages kinds zero = omega arith
to_long pages kinds (suc i) =
    let rest = to_long pages kinds i in
    let page = get_or pages i 0 in
    let kind = get_or kinds i 0 in
    let long = line_long kind page in
    let short = word_short kind in
    let few = decimal_few page in
    rw (length-append (text_to pages kinds i) (line_text kind page)) (omega arith)

pub text_long : (t : Trace) → length (text_of t) ≤ line_room * length t.pages
unfolding text_of
text_long t = to_long t.pages t.kinds (length t.pages)

-- any two outcomes that the contract of the text allows are the same
pub export_one : (s out : List ℕ) (a b : Exported) (out₁ out₂ : List ℕ) → ExportedInto s out a out₁ → ExportedInto s out b out₂ → (a ≡ b) × (out₁ ≡ out₂)
export_one s out a b out₁ out₂ x y = (x.answers ∙ sym y.answers, x.bytes_hold ∙ sym y.bytes_hold)

-- two answers that are read alike are the same
pub exported_one : (a b : Result ℕ Refusal) → exported_by a ≡ exported_by b → a ≡ b
exported_one (Ok n) (Ok m) e = cc
exported_one (Ok n) (Err q) e = cc
exported_one (Err r) (Ok m) e = cc
exported_one (Err r) (Err q) e = ap Err (number_injective r q (cc))

-- and so are any two answers of the call
pub export_answer_one : (s out : List ℕ) (a b : Result ℕ Refusal) (out₁ out₂ : List ℕ)
    → ExportedInto s out (exported_by a) out₁ → ExportedInto s out (exported_by b) out₂ → (a ≡ b) × (out₁ ≡ out₂)
export_answer_one s out a b out₁ out₂ x y = let e = export_one s out (exported_by a) (exported_by b) out₁ out₂ x y in (exported_one a b e.0, e.1)

-- with room for the longest line of each record, the text of an accepted trace is not refused
pub export_grants : (s out : List ℕ) (a : Exported) (out' : List ℕ) → refusal_of s ≡ 0 → line_room * length (trace_of s).pages ≤ length out → ExportedInto s out a out'
    → a ≡ Written (length (text_of (trace_of s)))
unfolding export_refusal
export_grants s out a out' z room i = i.answers ∙ rw (z, le-leb (line_room * length (trace_of s).pages) (length out) room)

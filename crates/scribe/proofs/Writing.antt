-- The writer's answers, one law a way, and reading what was written.
use mathlib.Core.Path.{◌≡◌, refl, sym, ◌∙◌}
use mathlib.Core.List.{List}
use Prim.Native.Nat.{ℕ, ◌≤◌, ◌<◌}
use lib.ListN.{length, get_or, take}
use lib.Seq.{sets}
use borrow.Author.Tests.{le-leb}
use Rattle.word.proofs.Laws.{sets_front}
use Rattle.trace.specs.Layout.{Trace, trace_from, file_length}
use Rattle.trace.specs.Encode.{encode}
use Rattle.trace.specs.Check.{summary_of, read_refusal, ReadInto, WritesAgain, Checked}
use Rattle.trace.specs.declared.Summary.{Summary}
use Rattle.trace.specs.Check.Checked.{Accepted}
use Rattle.refusal.proofs.Laws.{unstored}
use Rattle.trace.proofs.Sizes.{length_encode}
use Rattle.trace.proofs.Round.{decode_encode}
use Rattle.trace.proofs.Whole.{decode_whole}
use Rattle.scribe.specs.Write.{write_refusal, WrittenTo, ReadsBack}
use Rattle.scribe.proofs.Laws.{granted}

pub write_whole : (t : Trace) (out out' : List ℕ) → write_refusal t (length out) ≡ 0 → out' ≡ sets out 0 (encode t) → WrittenTo t out 0 out'
write_whole t out out' z e = record { answers = sym z; bytes_hold = rw z e }

pub write_refused : (t : Trace) (out : List ℕ) (r : ℕ) → r ≡ write_refusal t (length out) → (r ≡ 0 → ⊥) → WrittenTo t out r out
write_refused t out r e h = record { answers = e; bytes_hold = rw (← e) (unstored r (encode t) out h) }

-- what was written decodes to what was given, whose numbers fit their widths
pub reads_back : (t : Trace) (out : List ℕ) (r : ℕ) (out' : List ℕ) → t.settings.seed < 4294967296 → ((i : ℕ) → get_or t.pages i 0 < 4294967296)
    → WrittenTo t out r out' → ReadsBack t r out'
reads_back t out r out' seed page w z =
    let none = sym w.answers ∙ z in
    let g = granted t (length out) seed page none in
    rw (w.bytes_hold, none, sets_front out (encode t) (file_length (length t.pages)) (length_encode t) g.1) (decode_encode t g.0)

-- ---- one call after the other

-- write, then read into lists that hold the records: settings, order, count, pages and kinds are those that were written
pub write_read : (t : Trace) (r : ℕ) (out pages kinds : List ℕ) (answer : Checked) (pages' kinds' : List ℕ) → r ≡ 0 → ReadsBack t r out
    → length t.pages ≤ length pages → length t.kinds ≤ length kinds
    → ReadInto (take (file_length (length t.pages)) out) pages kinds answer pages' kinds'
    → (answer ≡ Accepted (summary_of t)) × (pages' ≡ sets pages 0 t.pages) × (kinds' ≡ sets kinds 0 t.kinds)
unfolding read_refusal
write_read t r out pages kinds answer pages' kinds' z back p k i =
    let d = decode_whole (take (file_length (length t.pages)) out) t (back z) in
    let lp = le-leb (length t.pages) (length pages) p in
    let lk = le-leb (length t.kinds) (length kinds) k in
    (rw (i.answers, d.0, d.1, lp, lk), rw (i.pages_hold, d.0, d.1, lp, lk), rw (i.kinds_hold, d.0, d.1, lp, lk))

-- read, then write what was read: the first bytes again
pub read_write : (s : List ℕ) (h : Summary) (pages kinds out : List ℕ) (r : ℕ) (out' : List ℕ) → WritesAgain s (Accepted h) pages kinds → r ≡ 0
    → WrittenTo (trace_from h.settings h.order (take h.count pages) (take h.count kinds)) out r out' → out' ≡ sets out 0 s
read_write s h pages kinds out r out' again z w = rw (← again h refl) (rw (sym w.answers ∙ z) at w.bytes_hold)

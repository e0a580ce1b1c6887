-- What is known of a trace that the checker accepts: it met each demand, and its parts are those of the layout.
use mathlib.Core.Path.{◌≡◌, refl, ap, ◌∙◌}
use mathlib.Core.List.{List}
use mathlib.Core.Bool.{true, ◌&&◌, and-eq-true_iff}
use Prim.Native.Nat.{ℕ, ◌+◌, ◌≤◌, ◌<◌}
use native.Mathlib.Omega.{arith}
use lib.ListN.{length}
use lib.Dec.{eqb, leb}
use borrow.Author.Tests.{eqb-true}
use Rattle.std.specs.Prelude.{Option, Some, None}
use Rattle.word.specs.declared.Order.{Order}
use Rattle.refusal.specs.Refusals.{demand, bad_field, out_of_range, too_short, wrong_writes}
use Rattle.refusal.proofs.Laws.{met, neither}
use Rattle.settings.specs.Settings.{in_range}
use Rattle.trace.specs.Layout.{header_length, file_length, mark_of, first_zero_at, last_zero_at, writes_at, count_at, settings_in, page_at, kind_at, kinds_at, zeros_at, known_kinds, all_zero, writes_in, trace_at, record_in, record_limit}
use Rattle.trace.specs.Check.{zeros_right, layout_refusal, content_refusal, refusal_in, refusal_marked, refusal_of, trace_of, decode, summary_of, check_of, number_of_answer}
use Rattle.trace.specs.declared.Summary.{Summary}
use Rattle.trace.specs.declared.Record.{Record}
use Rattle.trace.specs.Check.Checked.{Refused, Accepted}
use Rattle.trace.proofs.Lists.{length_up_to, up_to_at}
use Rattle.trace.proofs.Laws.{LaidOut, laid_out, accepts, refuses, number_is}

-- what refusals 6 to 8 demand
pub record Filled (o : Order) (s : List ℕ) : Type 0 where
  pub zero₁ : first_zero_at o s ≡ 0
  pub zero₂ : last_zero_at o s ≡ 0
  pub zeros : all_zero (zeros_at o s) ≡ true
  pub known : known_kinds (kinds_at o s) ≡ true
  pub writes : writes_at o s ≡ writes_in (kinds_at o s)
  pub range : in_range (settings_in o s) ≡ true

filled : (o : Order) (s : List ℕ) → content_refusal o s ≡ 0 → Filled o s
unfolding content_refusal
filled o s h =
    let z1 = eqb (first_zero_at o s) 0 in
    let z2 = eqb (last_zero_at o s) 0 in
    let zs = all_zero (zeros_at o s) in
    let ks = known_kinds (kinds_at o s) in
    let w = writes_in (kinds_at o s) in
    let t7 = eqb (writes_at o s) w in
    let t8 = in_range (settings_in o s) in
    let h6 = met (zeros_right o s && ks) bad_field (demand t7 wrong_writes (demand t8 out_of_range 0)) (omega arith) h in
    let h7 = met t7 wrong_writes (demand t8 out_of_range 0) (omega arith) h6.1 in
    let h8 = met t8 out_of_range 0 (omega arith) h7.1 in
    let b = (and-eq-true_iff (zeros_right o s) ks).0 h6.0 in
    let z = (and-eq-true_iff z1 (z2 && zs)).0 b.0 in
    let y = (and-eq-true_iff z2 zs).0 z.1 in
    record {
      zero₁ = eqb-true (first_zero_at o s) 0 z.0;
      zero₂ = eqb-true (last_zero_at o s) 0 y.0;
      zeros = y.1;
      known = b.1;
      writes = eqb-true (writes_at o s) w h7.0;
      range = h8.0;
    }

-- a trace in the order o that nothing refuses
pub record Passed (o : Order) (s : List ℕ) : Type 0 where
  pub mark : mark_of s ≡ Some o
  pub laid : LaidOut o s
  pub fill : Filled o s

by_mark : (m : Option Order) (s : List ℕ) → mark_of s ≡ m → refusal_marked m s ≡ 0 → (o : Order) × Passed o s
unfolding refusal_in
by_mark None s e h = absurd (omega arith)
by_mark (Some o) s e h =
    let b = neither (layout_refusal o s) (content_refusal o s) h in
    (o, record { mark = e; laid = laid_out o s b.0; fill = filled o s b.1 })

pub passed : (s : List ℕ) → refusal_of s ≡ 0 → (o : Order) × Passed o s
unfolding refusal_of
passed s h = by_mark (mark_of s) s refl (met (leb header_length (length s)) too_short (refusal_marked (mark_of s) s) (omega arith) h).1

-- the trace of such bytes
pub trace_is : (o : Order) (s : List ℕ) → mark_of s ≡ Some o → trace_of s ≡ trace_at o s
unfolding trace_of
trace_is o s e = rw e

-- ---- by the checker's answer

pub refused_is : (s : List ℕ) (r : ℕ) → check_of s ≡ Refused r → (refusal_of s ≡ r) × (r ≡ 0 → ⊥)
unfolding check_of decode
refused_is s r e = refuses (refusal_of s) (trace_of s) r e

pub number_checked : (s : List ℕ) → number_of_answer (check_of s) ≡ refusal_of s
unfolding check_of decode
number_checked s = number_is (refusal_of s) (trace_of s)

pub accepted : (s : List ℕ) (h : Summary) → check_of s ≡ Accepted h → (refusal_of s ≡ 0) × (h ≡ summary_of (trace_of s))
unfolding check_of decode
accepted s h e = accepts (refusal_of s) (trace_of s) h e

pub accepted_passed : (s : List ℕ) (h : Summary) → check_of s ≡ Accepted h → Passed h.order s × (h.count ≡ count_at h.order s)
unfolding trace_at
accepted_passed s h e =
    let a = accepted s h e in
    let p = passed s a.0 in
    let t : h ≡ summary_of (trace_at p.0 s) = a.1 ∙ ap summary_of (trace_is p.0 s p.1.mark) in
    rw t (p.1, length_up_to (page_at p.0 s) (count_at p.0 s))

-- record i lies within the bytes
pub record_within : (s : List ℕ) (h : Summary) (i : ℕ) → check_of s ≡ Accepted h → i < h.count → file_length i + 8 ≤ length s
record_within s h i e l =
    let a = accepted_passed s h e in
    let long = a.0.laid.long in
    let n = a.1 in
    omega arith

pub record_is : (s : List ℕ) (h : Summary) (i : ℕ) → check_of s ≡ Accepted h → i < h.count
    → ◌≡◌ {A = Record} (record { page = page_at h.order s i; kind = kind_at h.order s i }) (record_in (trace_of s) i)
unfolding trace_at
record_is s h i e l =
    let a = accepted_passed s h e in
    let o = h.order in
    let n = a.1 in
    rw (
      trace_is o s a.0.mark,
      up_to_at (page_at o s) (count_at o s) i (omega arith),
      up_to_at (kind_at o s) (count_at o s) i (omega arith),
    )

pub writes_are : (s : List ℕ) (h : Summary) → check_of s ≡ Accepted h → writes_at h.order s ≡ writes_in (trace_of s).kinds
unfolding trace_at
writes_are s h e =
    let a = accepted_passed s h e in
    rw (trace_is h.order s a.0.mark) a.0.fill.writes

pub header_within : (s : List ℕ) (h : Summary) → check_of s ≡ Accepted h → header_length ≤ length s
header_within s h e = let long = (accepted_passed s h e).0.laid.long in omega arith

-- it has at most 8,000 records
pub accepted_few : (s : List ℕ) (h : Summary) → check_of s ≡ Accepted h → h.count ≤ record_limit
accepted_few s h e = let a = accepted_passed s h e in let f = a.0.laid.few in let n = a.1 in omega arith

-- and as many pages and kinds
pub counts_are : (s : List ℕ) (h : Summary) → check_of s ≡ Accepted h → (length (trace_of s).pages ≡ h.count) × (length (trace_of s).kinds ≡ h.count)
unfolding trace_at
counts_are s h e =
    let a = accepted_passed s h e in
    let o = h.order in
    rw (trace_is o s a.0.mark, a.1) (length_up_to (page_at o s) (count_at o s), length_up_to (kind_at o s) (count_at o s))

-- its settings are in range
pub accepted_range : (s : List ℕ) (h : Summary) → check_of s ≡ Accepted h → in_range (trace_of s).settings ≡ true
unfolding trace_at
accepted_range s h e = let p = (accepted_passed s h e).0 in rw (trace_is h.order s p.mark) p.fill.range

-- Laws of the checks: what is known where nothing is refused, and the answer where something is.
use mathlib.Core.Path.{◌≡◌, refl, ap}
use mathlib.Core.List.{List}
use mathlib.Core.Bool.{◌&&◌, and-eq-true_iff}
use Prim.Native.Nat.{ℕ, zero, suc, ◌≤◌}
use native.Mathlib.Omega.{arith}
use lib.ListN.{length}
use lib.Dec.{eqb, leb}
use borrow.Author.Tests.{leb-true, eqb-true}
use Rattle.std.specs.Prelude.{Result, Ok, Err}
use Rattle.word.specs.declared.Order.{Order}
use Rattle.refusal.specs.Refusals.{demand, other_edition, too_many, wrong_length}
use Rattle.refusal.specs.declared.Refusal.{Refusal}
use Rattle.refusal.proofs.Laws.{met, number_injective}
use Rattle.trace.specs.Layout.{Trace, edition, record_limit, header_length, file_length, edition_at, count_at, offset_at, length_at, page_at, settings_in, trace_at}
use Rattle.trace.specs.Check.{layout_refusal, lengths_right, outcome, summary_of, checked, number_of_answer}
use Rattle.trace.specs.Check.Outcome.{Whole}
use Rattle.trace.specs.declared.Summary.{Summary}
use Rattle.trace.specs.Check.Checked.{Refused, Accepted}
use Rattle.trace.specs.Answer.{checked_by}
use Rattle.trace.proofs.Lists.{length_up_to}

-- what refusals 3 to 5 demand
pub record LaidOut (o : Order) (s : List ℕ) : Type 0 where
  pub edition_is : edition_at o s ≡ edition
  pub few : count_at o s ≤ record_limit
  pub offset : offset_at o s ≡ header_length
  pub field : length_at o s ≡ file_length (count_at o s)
  pub long : length s ≡ file_length (count_at o s)

pub laid_out : (o : Order) (s : List ℕ) → layout_refusal o s ≡ 0 → LaidOut o s
unfolding layout_refusal
laid_out o s h =
    let n = count_at o s in
    let off = eqb (offset_at o s) header_length in
    let fld = eqb (length_at o s) (file_length n) in
    let len = eqb (length s) (file_length n) in
    let h3 = met (eqb (edition_at o s) edition) other_edition (demand (leb n record_limit) too_many (demand (lengths_right o s) wrong_length 0)) (omega arith) h in
    let h4 = met (leb n record_limit) too_many (demand (lengths_right o s) wrong_length 0) (omega arith) h3.1 in
    let h5 = met (lengths_right o s) wrong_length 0 (omega arith) h4.1 in
    let b = (and-eq-true_iff off (fld && len)).0 h5.0 in
    let b' = (and-eq-true_iff fld len).0 b.1 in
    record {
      edition_is = eqb-true (edition_at o s) edition h3.0;
      few = leb-true n record_limit h4.0;
      offset = eqb-true (offset_at o s) header_length b.0;
      field = eqb-true (length_at o s) (file_length n) b'.0;
      long = eqb-true (length s) (file_length n) b'.1;
    }

-- ---- outcomes

-- a refusal is the answer
pub refused : (r : ℕ) (t : Trace) → (r ≡ 0 → ⊥) → Refused r ≡ checked (outcome r t)
refused zero t h = absurd (h refl)
refused (suc r) t h = refl

-- and back from the answer
pub accepts : (r : ℕ) (t : Trace) (h : Summary) → checked (outcome r t) ≡ Accepted h → (r ≡ 0) × (h ≡ summary_of t)
accepts zero t h e = (refl, cc)
accepts (suc r) t h e = absurd (let z : ◌≡◌ {A = ℕ} 0 1 = cc in omega arith)

pub refuses : (q : ℕ) (t : Trace) (r : ℕ) → checked (outcome q t) ≡ Refused r → (q ≡ r) × (r ≡ 0 → ⊥)
refuses zero t r e = absurd (let z : ◌≡◌ {A = ℕ} 0 1 = cc in omega arith)
refuses (suc q) t r e = let same : suc q ≡ r = cc in (same, λ z. omega arith)

pub outcome_whole : (r : ℕ) (t u : Trace) → outcome r t ≡ Whole u → (r ≡ 0) × (t ≡ u)
outcome_whole zero t u e = (refl, cc)
outcome_whole (suc r) t u e = absurd (let z : ◌≡◌ {A = ℕ} 0 1 = cc in omega arith)

-- the number of an answer is the refusal
pub number_is : (r : ℕ) (t : Trace) → number_of_answer (checked (outcome r t)) ≡ r
number_is zero t = refl
number_is (suc r) t = refl

-- two answers that are read alike are the same
pub checked_one : (a b : Result Summary Refusal) → checked_by a ≡ checked_by b → a ≡ b
checked_one (Ok h) (Ok g) e = cc
checked_one (Ok h) (Err q) e = cc
checked_one (Err r) (Ok g) e = cc
checked_one (Err r) (Err q) e = ap Err (number_injective r q (cc))

-- the header that the checker tells is that of the trace
pub told : (o : Order) (s : List ℕ) → Accepted (record { settings = settings_in o s; order = o; count = count_at o s }) ≡ checked (outcome 0 (trace_at o s))
unfolding trace_at
told o s = rw (length_up_to (page_at o s) (count_at o s))

-- Laws of the fold: one record more, the numbers of rows, the tally as a count of rows.
use mathlib.Core.Path.{◌≡◌, refl, ap, sym, ◌∙◌}
use mathlib.Core.List.{List, [], ◌∷◌, ◌++◌}
use Prim.Native.Nat.{ℕ, zero, suc, ◌+◌, ◌*◌, ◌≤◌}
use native.Mathlib.Omega.{arith}
use native.Mathlib.Numerals.{add-one}
use lib.ListN.{length, length-append}
use lib.Dec.{eqb}
use Rattle.std.specs.Prelude.{Result, Ok, Err}
use Rattle.search.specs.Search.{one_if}
use Rattle.search.proofs.Least.{last_or_below}
use Rattle.refusal.specs.declared.Refusal.{Refusal}
use Rattle.refusal.specs.Numbers.{answer_of}
use Rattle.refusal.proofs.Laws.{number_some, number_injective, answer_one}
use Rattle.trace.specs.Layout.{Trace, writes_in, up_to, record_in}
use Rattle.trace.proofs.Lists.{writes_snoc, up_to_is}
use Rattle.pool.specs.declared.Pool.{Pool}
use Rattle.tally.specs.declared.Row.{Row}
use Rattle.tally.specs.declared.Tally.{Tally}
use Rattle.tally.specs.Rows.{row_numbers}
use Rattle.tally.specs.Tally.{counted_by, counted_rows}
use Rattle.tally.proofs.Laws.{counted_none, counted_snoc}
use Rattle.effect.specs.Record.{Did, record_of}
use Rattle.replay.specs.declared.Ended.{Ended}
use Rattle.replay.specs.declared.Unstepped.{Unstepped}
use Rattle.replay.specs.Calls.{Stepped, stepped_by, ended_as}
use Rattle.replay.specs.Replay.{Played, started, after, replay_to, rows_numbers}

-- two answers that are read alike are the same, and so are pools and tallies
pub stepped_one : (a b : Result Row Unstepped) (p q : Pool) (t u : Tally) → stepped_by a p t ≡ stepped_by b q u → (a ≡ b) × (p ≡ q) × (t ≡ u)
stepped_one (Ok v) (Ok w) p q t u e = (ap (λ (s : Stepped). Ok s.row) e, ap (λ (s : Stepped). s.pool) e, ap (λ (s : Stepped). s.tally) e)
stepped_one (Ok v) (Err y) p q t u e = let n = number_some y.refusal in let z = ap (λ (s : Stepped). s.refusal) e in absurd (omega arith)
stepped_one (Err x) (Ok w) p q t u e = let n = number_some x.refusal in let z = ap (λ (s : Stepped). s.refusal) e in absurd (omega arith)
stepped_one (Err x) (Err y) p q t u e =
    let n = number_injective x.refusal y.refusal (ap (λ (s : Stepped). s.refusal) e) in
    (λ i. Err (record { refusal = n i; row = (e i).row }), ap (λ (s : Stepped). s.pool) e, ap (λ (s : Stepped). s.tally) e)

pub ended_one : (a b : Result (Unit {0}) Refusal) (p q : Pool) (t u : Tally) → ended_as (answer_of a) p t ≡ ended_as (answer_of b) q u → (a ≡ b) × (p ≡ q) × (t ≡ u)
ended_one a b p q t u e = (answer_one a b (ap (λ (r : Ended). r.refusal) e), ap (λ (r : Ended). r.pool) e, ap (λ (r : Ended). r.tally) e)

-- the rows' numbers
pub numbers_none : rows_numbers [] ≡ []
unfolding rows_numbers
numbers_none = refl

pub numbers_snoc : (ws : List Row) (w : Row) → rows_numbers (ws ++ (w ∷ [])) ≡ rows_numbers ws ++ row_numbers w
unfolding rows_numbers
numbers_snoc [] w = refl
numbers_snoc (v ∷ ws) w = ap (λ (l : List ℕ). row_numbers v ++ l) (numbers_snoc ws w)

pub numbers_length : (ws : List Row) → length (rows_numbers ws) ≡ 4 * length ws
unfolding rows_numbers
numbers_length [] = refl
numbers_length (w ∷ ws) = let h = numbers_length ws in omega arith

module _ (p : Pool) (t : Tally) (trace : Trace) where
  -- what record n does
  abbrev pub doing : ℕ → Did
  doing n = record_of (replay_to p t trace n).pool (record_in trace n).page (record_in trace n).kind

  pub replay_none : replay_to p t trace 0 ≡ started p t
  unfolding replay_to
  replay_none = refl

  pub replay_suc : (n : ℕ) → replay_to p t trace (suc n) ≡ after (replay_to p t trace n) (doing n)
  unfolding replay_to
  replay_suc n = refl

  pub replay_more : (n : ℕ) → replay_to p t trace (n + 1) ≡ after (replay_to p t trace n) (doing n)
  replay_more n = ap (replay_to p t trace) (add-one n) ∙ replay_suc n

  -- each record fills one row
  pub rows_length : (n : ℕ) → length (replay_to p t trace n).rows ≡ n
  rows_length zero = ap (λ (r : Played). length r.rows) replay_none
  rows_length (suc n) =
      let h = rows_length n in
      let l = length-append (replay_to p t trace n).rows ((doing n).row ∷ []) in
      ap (λ (r : Played). length r.rows) (replay_suc n) ∙ l ∙ omega arith

  -- each count is raised by the number of such rows, and the pages written by those of all rows
  pub replay_tally : (n : ℕ) → (replay_to p t trace n).tally ≡ counted_rows t (replay_to p t trace n).rows
  replay_tally zero = ap (λ (r : Played). r.tally) replay_none ∙ sym (ap (λ (r : Played). counted_rows t r.rows) replay_none ∙ counted_none t)
  replay_tally (suc n) =
      ap (λ (r : Played). r.tally) (replay_suc n)
      ∙ ap (λ (x : Tally). counted_by x (doing n).row) (replay_tally n)
      ∙ counted_snoc t (replay_to p t trace n).rows (doing n).row
      ∙ sym (ap (λ (r : Played). counted_rows t r.rows) (replay_suc n))

-- write records among the first n
abbrev pub writes_to : Trace → ℕ → ℕ
writes_to trace n = writes_in (up_to (λ i. (record_in trace i).kind) n)

pub writes_suc : (trace : Trace) (n : ℕ) → writes_to trace (suc n) ≡ writes_to trace n + one_if (eqb (record_in trace n).kind 1)
writes_suc trace n = writes_snoc (up_to (λ i. (record_in trace i).kind) n) (record_in trace n).kind

pub writes_all : (trace : Trace) → writes_to trace (length trace.kinds) ≡ writes_in trace.kinds
writes_all trace = ap writes_in (up_to_is (λ i. (record_in trace i).kind) trace.kinds (λ i l. refl))

pub writes_rise : (trace : Trace) (n m : ℕ) → n ≤ m → writes_to trace n ≤ writes_to trace m
writes_rise trace n zero l = let e = ap (writes_to trace) (nothing n l) in omega arith
  where
    nothing : (n : ℕ) → n ≤ 0 → n ≡ 0
    nothing n l = omega arith
writes_rise trace n (suc m) l =
    last_or_below n (suc m) (omega arith)
    (λ q. let e = ap (writes_to trace) q in omega arith)
    (λ q. let h = writes_rise trace n m (omega arith) in let e = writes_suc trace m in omega arith)

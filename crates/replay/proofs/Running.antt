-- The loops: their states, and one turn.
use mathlib.Core.Path.{◌≡◌, ap, sym, ◌∙◌}
use mathlib.Core.List.{List, [], ◌∷◌, ◌++◌}
use Prim.Native.Nat.{ℕ, ◌+◌, ◌*◌}
use native.Mathlib.Omega.{arith}
use native.Mathlib.Nat.{zero-add}
use lib.ListN.{length, length-append}
use lib.Seq.{sets, length-sets}
use Rattle.word.proofs.Laws.{sets_append}
use Rattle.trace.specs.Layout.{Trace, record_in}
use Rattle.pool.specs.declared.Pool.{Pool}
use Rattle.tally.specs.declared.Row.{Row}
use Rattle.tally.specs.declared.Tally.{Tally}
use Rattle.tally.specs.Rows.{row_numbers}
use Rattle.tally.specs.Tally.{counted_by}
use Rattle.effect.specs.Record.{Did, record_of}
use Rattle.effect.specs.ForCode.{Effect, effect_of}
use Rattle.replay.specs.declared.Ended.{Ended}
use Rattle.replay.specs.Replay.{Played, replay_to, replay_of, rows_numbers}
use Rattle.replay.specs.Calls.{ended_as, ended_of}
use Rattle.replay.proofs.Laws.{doing, replay_none, replay_more, rows_length, numbers_none, numbers_snoc, numbers_length}

-- after i records: pool and tally
pub record Counting (p : Pool) (t : Tally) (trace : Trace) (q : Pool) (u : Tally) (i : ℕ) : Type 0 where
  pub pool : q ≡ (replay_to p t trace i).pool
  pub tally : u ≡ (replay_to p t trace i).tally

-- and the lists
pub record Listing (p : Pool) (t : Tally) (trace : Trace) (rows₀ written₀ rows written : List ℕ) (at i : ℕ) : Type 0 where
  pub at_end : at ≡ length (replay_to p t trace i).written
  pub rows_hold : rows ≡ sets rows₀ 0 (rows_numbers (replay_to p t trace i).rows)
  pub written_hold : written ≡ sets written₀ 0 (replay_to p t trace i).written

-- stores change no length
pub stored_length : (l l' vs : List ℕ) (at n : ℕ) → l' ≡ sets l at vs → length l ≡ n → length l' ≡ n
stored_length l l' vs at n e h = ap length e ∙ length-sets l at vs ∙ h

rows_more : (l₀ l : List ℕ) (ws : List Row) (w v : Row) (i : ℕ) → v ≡ w → length ws ≡ i → l ≡ sets l₀ 0 (rows_numbers ws) → sets l (4 * i) (row_numbers v) ≡ sets l₀ 0 (rows_numbers (ws ++ (w ∷ [])))
rows_more l₀ l ws w v i e n h = rw (h, e, ← n, numbers_snoc ws w, sets_append (rows_numbers ws) (row_numbers w) l₀ 0, numbers_length ws, zero-add)

written_more : (l₀ l vs us ws : List ℕ) (at : ℕ) → us ≡ ws → at ≡ length vs → l ≡ sets l₀ 0 vs → sets l at us ≡ sets l₀ 0 (vs ++ ws)
written_more l₀ l vs us ws at e n h = rw (h, e, n, sets_append vs ws l₀ 0, zero-add)

module _ (p : Pool) (t : Tally) (trace : Trace) where
  pub counting_none : (q : Pool) → q ≡ p → Counting p t trace q t 0
  counting_none q e = record { pool = e ∙ sym (ap (λ (r : Played). r.pool) (replay_none p t trace)); tally = sym (ap (λ (r : Played). r.tally) (replay_none p t trace)) }

  pub listing_none : (rows written : List ℕ) → Listing p t trace rows written rows written 0 0
  listing_none rows written = record {
    at_end = sym (ap (λ (r : Played). length r.written) (replay_none p t trace));
    rows_hold = sym (ap (λ (r : Played). sets rows 0 (rows_numbers r.rows)) (replay_none p t trace) ∙ ap (sets rows 0) numbers_none);
    written_hold = sym (ap (λ (r : Played). sets written 0 r.written) (replay_none p t trace));
  }

  -- what the call of record i is about
  pub same_doing : (q : Pool) (u : Tally) (i page kind : ℕ) → Counting p t trace q u i → page ≡ (record_in trace i).page → kind ≡ (record_in trace i).kind → record_of q page kind ≡ doing p t trace i
  same_doing q u i page kind c a b = rw (c.pool, a, b)

  pub counting_more : (q : Pool) (u : Tally) (i : ℕ) (d : Did) (e : Effect) (v : Tally) → Counting p t trace q u i → d ≡ doing p t trace i → e ≡ effect_of d → v ≡ counted_by u e.row
      → Counting p t trace e.pool v (i + 1)
  counting_more q u i d e v c h x y = record {
    pool = ap (λ (z : Effect). z.pool) x ∙ ap (λ (z : Did). z.pool) h ∙ sym (ap (λ (r : Played). r.pool) (replay_more p t trace i));
    tally = y ∙ rw (c.tally, x, h, replay_more p t trace i);
  }

  module _ (rows₀ written₀ rows written : List ℕ) (at i : ℕ) (d : Did) (g : Listing p t trace rows₀ written₀ rows written at i) (h : d ≡ doing p t trace i) where
    pub listing_more : (w : Row) (m : ℕ) (rows' written' : List ℕ) → w ≡ d.row → m ≡ length d.written
        → rows' ≡ sets rows (4 * i) (row_numbers w) → written' ≡ sets written at d.written
        → Listing p t trace rows₀ written₀ rows' written' (at + m) (i + 1)
    listing_more w m rows' written' a b x y =
        let r = replay_to p t trace i in
        let more = replay_more p t trace i in
        let l = length-append r.written (doing p t trace i).written in
        let same = ap (λ (z : Did). length z.written) h in
        let end = g.at_end in
        let all = ap (λ (z : Played). length z.written) more in
        record {
          at_end = omega arith;
          rows_hold = x ∙ rows_more rows₀ rows r.rows (doing p t trace i).row w i (a ∙ ap (λ (z : Did). z.row) h) (rows_length p t trace i) g.rows_hold ∙ sym (ap (λ (z : Played). sets rows₀ 0 (rows_numbers z.rows)) more);
          written_hold = y ∙ written_more written₀ written r.written d.written (doing p t trace i).written at (ap (λ (z : Did). z.written) h) end g.written_hold ∙ sym (ap (λ (z : Played). sets written₀ 0 z.written) more);
        }

  -- at the end
  pub counting_all : (q : Pool) (u : Tally) (i : ℕ) → Counting p t trace q u i → i ≡ length trace.pages → ◌≡◌ {A = Ended} (ended_as 0 q u) (ended_of 0 p t (replay_of p t trace))
  counting_all q u i c e = rw (c.pool, c.tally, e)

  pub listing_all : (rows₀ written₀ rows written : List ℕ) (at i : ℕ) → Listing p t trace rows₀ written₀ rows written at i → i ≡ length trace.pages
      → (rows ≡ sets rows₀ 0 (rows_numbers (replay_of p t trace).rows)) × (written ≡ sets written₀ 0 (replay_of p t trace).written)
  listing_all rows₀ written₀ rows written at i g e = (rw e at g.rows_hold, rw e at g.written_hold)

-- What the contracts of step, replay and replay to counts settle, over any pool, tally and bytes.
use mathlib.Core.Path.{◌≡◌, refl, ap, sym, ◌∙◌}
use mathlib.Core.Bool.{true, and-eq-true_iff}
use mathlib.Core.List.{List, [], ◌∷◌, ◌++◌}
use Prim.Native.Nat.{ℕ, zero, suc, ◌+◌, ◌*◌, ◌≤◌, ◌<◌}
use native.Mathlib.Omega.{arith}
use lib.ListN.{length, get_or, take, drop, get_or-append}
use lib.Seq.{sets-eq, get_or_at}
use lib.Dec.{leb}
use borrow.Author.Tests.{leb-true}
use Rattle.word.proofs.Laws.{sets_front}
use Rattle.search.proofs.Least.{last_or_below}
use Rattle.refusal.specs.Refusals.{demand, or_else, no_room, not_sound, other_settings}
use Rattle.refusal.proofs.Laws.{met, neither}
use Rattle.settings.specs.Settings.{same_settings}
use Rattle.trace.specs.Layout.{Trace, mark_of, count_at, page_at, kind_at, writes_in, trace_at, record_in}
use Rattle.trace.specs.Check.{refusal_of, order_marked, trace_of}
use Rattle.trace.proofs.Lists.{length_up_to}
use Rattle.pool.specs.declared.Pool.{Pool}
use Rattle.pool.specs.Sound.{sound_pool}
use Rattle.pool.proofs.Sound.{told, made}
use Rattle.pool.proofs.Sizes.{Sized}
use Rattle.tally.specs.declared.Row.{Row}
use Rattle.tally.specs.declared.Tally.{Tally}
use Rattle.tally.specs.Rows.{row}
use Rattle.tally.specs.Tally.{tally_limit, counted_rows}
use Rattle.effect.specs.Record.{record_of, dirty_in}
use Rattle.replay.specs.declared.Ended.{Ended}
use Rattle.replay.specs.Replay.{Played, replay_to, replay_of, rows_numbers}
use Rattle.replay.specs.Calls.{Stepped, may_begin, StepInto, room_for, counts_refusal, replay_refusal, ended_of, counts_of, ReplayInto}
use Rattle.replay.specs.ForCode.{RanInto}
use Rattle.replay.proofs.Laws.{doing, replay_suc, rows_length, replay_tally, numbers_length, writes_to, writes_all}
use Rattle.replay.proofs.Begins.{begins_sound, begins_within}
use Rattle.replay.proofs.Going.{Going, going}
use Rattle.worked.specs.Rows.{row_in}

-- any two outcomes that the step's contract allows are the same
pub step_one : (p : Pool) (t : Tally) (page kind : ℕ) (list : List ℕ) (a b : Stepped) (list₁ list₂ : List ℕ)
    → StepInto p t page kind list a list₁ → StepInto p t page kind list b list₂ → (a ≡ b) × (list₁ ≡ list₂)
step_one p t page kind list a b list₁ list₂ x y = (x.answers ∙ sym y.answers, x.list_holds ∙ sym y.list_holds)

-- any two that replay's allows
pub replay_one : (p : Pool) (t : Tally) (s rows written : List ℕ) (a b : Ended) (rows₁ rows₂ written₁ written₂ : List ℕ)
    → ReplayInto p t s rows written a rows₁ written₁ → ReplayInto p t s rows written b rows₂ written₂ → (a ≡ b) × (rows₁ ≡ rows₂) × (written₁ ≡ written₂)
replay_one p t s rows written a b rows₁ rows₂ written₁ written₂ x y =
    (x.answers ∙ sym y.answers, x.rows_hold ∙ sym y.rows_hold, x.written_hold ∙ sym y.written_hold)

-- any two that the one of replay to counts allows
pub counts_one : (p : Pool) (t : Tally) (s : List ℕ) (a b : Ended) → a ≡ counts_of p t s → b ≡ counts_of p t s → a ≡ b
counts_one p t s a b x y = x ∙ sym y

rows_in : (ws : List Row) (rest : List ℕ) (i : ℕ) (w : Row) → i < length ws → row_in (rows_numbers ws ++ rest) i ≡ get_or ws i w
unfolding rows_numbers
rows_in [] rest i w l = absurd (omega arith)
rows_in (v ∷ ws) rest zero w l = refl
rows_in (v ∷ ws) rest (suc i) w l = rows_in ws rest i w (omega arith)

module _ (p : Pool) (t : Tally) (trace : Trace) where
  -- each record of a replay fills its row by what it does to the pool that those before it left
  pub row_of_record : (n i : ℕ) (w : Row) → i < n → get_or (replay_to p t trace n).rows i w ≡ (record_of (replay_to p t trace i).pool (record_in trace i).page (record_in trace i).kind).row
  row_of_record zero i w l = absurd (omega arith)
  row_of_record (suc n) i w l =
      ap (λ (r : Played). get_or r.rows i w) (replay_suc p t trace n)
      ∙ last_or_below i n (omega arith)
      (λ q. get_or_at (replay_to p t trace n).rows (doing p t trace n).row [] w i (rows_length p t trace n ∙ sym q) ∙ ap (λ (j : ℕ). (doing p t trace j).row) (sym q))
      (λ q. get_or-append (replay_to p t trace n).rows ((doing p t trace n).row ∷ []) w i (let e = rows_length p t trace n in omega arith) ∙ row_of_record n i w q)

-- a trace has as many kinds as pages
same_long : (s : List ℕ) → length (trace_of s).pages ≡ length (trace_of s).kinds
unfolding trace_of trace_at
same_long s = let o = order_marked (mark_of s) in length_up_to (page_at o s) (count_at o s) ∙ sym (length_up_to (kind_at o s) (count_at o s))

module _ (p : Pool) (t : Tally) (s rows written : List ℕ) (r : Ended) (rows' written' : List ℕ) (x : ReplayInto p t s rows written r rows' written') where
  abbrev refusal : ℕ
  refusal = replay_refusal p t s (length rows) (length written)

  abbrev played : Played
  played = replay_of p t (trace_of s)

  -- the number returned is the first refusal that fits, or 0
  pub returns_refusal : r.refusal ≡ refusal
  returns_refusal = ap (λ (e : Ended). e.refusal) x.answers ∙ go refusal
    where
      go : (n : ℕ) → (ended_of n p t played).refusal ≡ n
      go zero = refl
      go (suc n) = refl

  -- a refused call returns its number, hands back the pool given, and stores nothing
  pub refused_call : (r.refusal ≡ 0 → ⊥) → (r.pool ≡ p) × (r.tally ≡ t) × (rows' ≡ rows) × (written' ≡ written)
  refused_call ne = go refusal refl
    where
      go : (n : ℕ) → refusal ≡ n → (r.pool ≡ p) × (r.tally ≡ t) × (rows' ≡ rows) × (written' ≡ written)
      go zero e = absurd (ne (returns_refusal ∙ e))
      go (suc n) e =
          (ap (λ (q : Ended). q.pool) x.answers ∙ rw e, ap (λ (q : Ended). q.tally) x.answers ∙ rw e, x.rows_hold ∙ rw e, x.written_hold ∙ rw e)

  module _ (done : r.refusal ≡ 0) where
    granted : refusal ≡ 0
    granted = sym returns_refusal ∙ done

    met_all : (counts_refusal p t s ≡ 0) × (demand (room_for p (trace_of s) (length rows) (length written)) no_room 0 ≡ 0)
    unfolding replay_refusal
    met_all = neither (counts_refusal p t s) (demand (room_for p (trace_of s) (length rows) (length written)) no_room 0) granted

    -- it may begin, so that its pool is sound
    pub begun : may_begin p t ≡ true
    unfolding counts_refusal
    begun = (met (may_begin p t) not_sound (or_else (refusal_of s) (demand (same_settings (trace_of s).settings p.settings) other_settings 0)) (omega arith) met_all.0).0

    roomy : (4 * length (trace_of s).pages ≤ length rows) × (writes_in (trace_of s).kinds + dirty_in p.frames ≤ length written)
    roomy =
        let n = 4 * length (trace_of s).pages in
        let m = writes_in (trace_of s).kinds + dirty_in p.frames in
        let a = (and-eq-true_iff (leb n (length rows)) (leb m (length written))).0 (met (room_for p (trace_of s) (length rows) (length written)) no_room 0 (omega arith) met_all.1).0 in
        (leb-true n (length rows) a.0, leb-true m (length written) a.1)

    -- a call that is not refused: the replay's pool and tally, the numbers of its rows, its written pages
    pub ran : RanInto p t s rows written r rows' written'
    ran = record { answers = x.answers ∙ rw granted; rows_hold = x.rows_hold ∙ rw granted; written_hold = x.written_hold ∙ rw granted }

    -- the numbers of each row are in their places
    pub each_row : (i : ℕ) (w : Row) → i < length (trace_of s).pages → row_in rows' i ≡ get_or played.rows i w
    each_row i w l =
        let ws = played.rows in
        let n = numbers_length ws in
        let m = rows_length p t (trace_of s) (length (trace_of s).pages) in
        let room = roomy.0 in
        ap (λ (z : List ℕ). row_in z i) (ran.rows_hold ∙ sets-eq (rows_numbers ws) rows 0 (omega arith)) ∙ rows_in ws (drop (0 + length (rows_numbers ws)) rows) i w (omega arith)

    -- and row i is what record i does to the pool that those before it left
    pub each_record : (i : ℕ) → i < length (trace_of s).pages
        → row_in rows' i ≡ (record_of (replay_to p t (trace_of s) i).pool (record_in (trace_of s) i).page (record_in (trace_of s) i).kind).row
    each_record i l = each_row i (row 0 0 0 0) l ∙ row_of_record p t (trace_of s) (length (trace_of s).pages) i (row 0 0 0 0) l

    -- replay to counts ends in the same pool and tally
    pub counts_agree : (e : Ended) → e ≡ counts_of p t s → e ≡ r
    unfolding counts_of
    counts_agree e y = y ∙ ap (λ (n : ℕ). ended_of n p t played) met_all.0 ∙ sym ran.answers

    -- the tally handed back is the start's raised by the replay's rows
    pub tally_counts : r.tally ≡ counted_rows t played.rows
    tally_counts = ap (λ (e : Ended). e.tally) ran.answers ∙ replay_tally p t (trace_of s) (length (trace_of s).pages)

    module _ (z : Sized p) where
      gone : Going p (trace_of s) tally_limit (length (trace_of s).pages) played
      gone = going p t (trace_of s) (told p (begins_sound p t begun)) z (begins_within p t begun) (length (trace_of s).pages)

      -- the count of pages written is raised by the number of written pages
      pub pages_counted : r.tally.written ≡ t.written + length played.written
      unfolding counted_rows
      pages_counted = ap (λ (u : Tally). u.written) tally_counts ∙ ap (λ (n : ℕ). t.written + n) gone.pages

      -- pages written go, in order, to the second lent list
      pub each_page : take (length played.written) written' ≡ played.written
      each_page =
          let spent = gone.spent in
          let all = ap (writes_to (trace_of s)) (same_long s) ∙ writes_all (trace_of s) in
          let room = roomy.1 in
          ap (take (length played.written)) ran.written_hold ∙ sets_front written played.written (length played.written) refl (omega arith)

  -- a replay of a sound pool ends in a sound pool, refused or not, with the settings as they were; arrays of a pool have their lengths
  pub ends_sound : Sized p → sound_pool p ≡ true → (sound_pool r.pool ≡ true) × (r.pool.settings ≡ p.settings)
  ends_sound z h = go r.refusal refl
    where
      go : (n : ℕ) → r.refusal ≡ n → (sound_pool r.pool ≡ true) × (r.pool.settings ≡ p.settings)
      go zero e =
          let g = gone e z in
          let q = ap (λ (y : Ended). y.pool) (ran e).answers in
          (ap sound_pool q ∙ made played.pool g.sound, ap (λ (y : Pool). y.settings) q ∙ g.settings)
      go (suc n) e = let q = (refused_call (λ y. let z : ◌≡◌ {A = ℕ} 0 (suc n) = sym y ∙ e in absurd (omega arith))).0 in (ap sound_pool q ∙ h, ap (λ (y : Pool). y.settings) q)

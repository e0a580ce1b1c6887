-- The first demand holds.
use mathlib.Core.Path.{◌≡◌, refl, ap, sym, subst, ◌∙◌}
use mathlib.Core.Bool.{Bool, true, false, ◌&&◌, true≢false}
use mathlib.Core.List.{List, [], append-nil}
use mathlib.Core.Logic.{◌↔◌}
use Prim.Native.Nat.{ℕ, zero, suc, ◌≤◌, ◌<◌}
use native.Mathlib.Nat.{add-zero}
use native.Mathlib.Omega.{arith}
use lib.ListN.{length}
use lib.Dec.{eqb, leb}
use borrow.Author.Tests.{leb-true, leb-false, le-leb, lt-leb, eqb-false, ne_eqb}
use Rattle.std.specs.Prelude.{Option, Some, None}
use Rattle.search.specs.Search.{pick}
use Rattle.refusal.proofs.Laws.{unstored, answer_one}
use Rattle.refusal.specs.Refusals.{stored, demand, out_of_range, no_reference_left, not_pinned, pins_full, not_sound}
use Rattle.settings.specs.declared.Settings.{Settings}
use Rattle.settings.specs.Settings.{in_range, one_frame}
use Rattle.settings.proofs.Laws.{ranges}
use Rattle.trace.specs.Layout.{Trace, record_in}
use Rattle.trace.specs.Check.{trace_of, number_of_answer, read_refusal, ReadInto, Checked}
use Rattle.trace.proofs.Laws.{number_is, checked_one}
use Rattle.trace.proofs.Accept.{number_checked}
use Rattle.trace.proofs.Reading.{read_one}
use Rattle.trace.specs.Encode.{encode}
use Rattle.scribe.specs.Write.{write_refusal, WrittenTo, converted, convert_refusal, ConvertedTo}
use Rattle.pool.specs.declared.Frame.{Frame}
use Rattle.pool.specs.declared.Pool.{Pool}
use Rattle.limit.specs.Limits.{reference_limit}
use Rattle.pool.specs.Pool.{frame_at, opened, fresh_pool, fresh_of}
use Rattle.pool.specs.Sound.{sound_pool, pool_refusal}
use Rattle.pool.proofs.Laws.{opened_one}
use Rattle.pool.proofs.Sound.{Sound, told, made}
use Rattle.pool.proofs.Sizes.{Sized}
use Rattle.pool.proofs.Opening.{fresh_sound, empty_sound}
use Rattle.image.specs.Layout.{encode_pool}
use Rattle.image.specs.Image.{held_refusal, opened_or, pool_of, held_of, image_refusal, image_of, saving_refusal, SavedTo}
use Rattle.image.proofs.Again.{read_told}
use Rattle.reference.specs.Search.{find_page}
use Rattle.tally.specs.declared.Row.{Row}
use Rattle.tally.specs.declared.Tally.{Tally}
use Rattle.tally.specs.Rows.{refused_by, refused_row, is_refused}
use Rattle.tally.specs.Tally.{counted_by}
use Rattle.effect.specs.Record.{Did, pin_limit, pins_at, refusal, unpin_of, record_of}
use Rattle.effect.proofs.Ways.{unpin_absent, unpin_none, unpin_one}
use Rattle.effect.proofs.Answers.{EveryPinned, limit_refuses, hit_answers, refused_still}
use Rattle.replay.specs.declared.Ended.{Ended}
use Rattle.replay.specs.Replay.{Played, replay_to, replay_of}
use Rattle.replay.specs.Calls.{Stepped, step_refusal, stepped_of, StepInto, counts_refusal, ended_of, counts_of, ReplayInto}
use Rattle.replay.proofs.Laws.{stepped_one, ended_one, doing, replay_suc}
use Rattle.replay.proofs.Begins.{begins_sound, begins_within}
use Rattle.replay.proofs.Going.{going}
use Rattle.replay.proofs.Stepping.{step_met}
use Rattle.fresh.specs.Fresh.{fresh_counts}
use Rattle.curve.specs.Curve.{sizes, curve_of, curve_refusal, CurveInto}
use Rattle.host.specs.Counts.{words_of, count_bytes, host_refusal, CountsInto}
use Rattle.host.specs.Curve.{curve_length, CurveBytesInto}
use Rattle.worked.proofs.Settled.{step_one, replay_one, counts_one, returns_refusal, refused_call, begun, each_record}
use Rattle.worked.proofs.Limits.{no_frame_lem}
use Rattle.rename.specs.Sameness.{Stored}
use Rattle.demands.specs.First.{Call, Calls, one_refused, OnlyShown, WantsFrame, NoFrame, InStep, InReplay, FirstDemand}

-- ---- calls

-- a refusal that is not 0 is one past some number
past : (n : ℕ) → (n ≡ 0 → ⊥) → (m : ℕ) × (n ≡ suc m)
past zero h = absurd (h refl)
past (suc m) h = (m, refl)

-- the number that a step, a replay and a replay to counts return
step_number : (n : ℕ) (p : Pool) (t : Tally) (d : Did) → (stepped_of n p t d).refusal ≡ n
step_number zero p t d = refl
step_number (suc n) p t d = refl

end_number : (n : ℕ) (p : Pool) (t : Tally) (r : Played) → (ended_of n p t r).refusal ≡ n
end_number zero p t r = refl
end_number (suc n) p t r = refl

fresh_refusal : (x : Settings) → (fresh_of x).refusal ≡ demand (in_range x) out_of_range 0
unfolding fresh_of
fresh_refusal x = go (in_range x)
  where
    go : (b : Bool) → (pick b (opened 0 (fresh_pool x)) (opened out_of_range (fresh_pool one_frame))).refusal ≡ demand b out_of_range 0
    go true = refl
    go false = refl

one_ranged : in_range one_frame ≡ true
unfolding in_range
one_ranged = refl

module _ (s pages kinds : List ℕ) where
  read_fits : (o : Checked × List ℕ × List ℕ) → ReadInto s pages kinds o.0 o.1 o.2 → number_of_answer o.0 ≡ read_refusal s (length pages) (length kinds)
  read_fits o x = ap number_of_answer x.answers ∙ number_is (read_refusal s (length pages) (length kinds)) (trace_of s)

  read_still : (o : Checked × List ℕ × List ℕ) → ReadInto s pages kinds o.0 o.1 o.2 → (number_of_answer o.0 ≡ 0 → ⊥) → (o.1 ≡ pages) × (o.2 ≡ kinds)
  read_still o x ne = let n = past (read_refusal s (length pages) (length kinds)) (λ e. ne (read_fits o x ∙ e)) in (x.pages_hold ∙ rw n.1, x.kinds_hold ∙ rw n.1)

module _ (p : Pool) (t : Tally) (page kind : ℕ) (list : List ℕ) where
  pub step_fits : (o : Stepped × List ℕ) → StepInto p t page kind list o.0 o.1 → o.0.refusal ≡ step_refusal p t kind (length list)
  step_fits o x = ap (λ (r : Stepped). r.refusal) x.answers ∙ step_number (step_refusal p t kind (length list)) p t (record_of p page kind)

  step_still : (o : Stepped × List ℕ) → StepInto p t page kind list o.0 o.1 → (o.0.refusal ≡ 0 → ⊥) → (o.0.pool ≡ p) × (o.0.tally ≡ t) × (o.1 ≡ list)
  step_still o x ne =
      let n = past (step_refusal p t kind (length list)) (λ e. ne (step_fits o x ∙ e)) in
      (ap (λ (r : Stepped). r.pool) x.answers ∙ rw n.1, ap (λ (r : Stepped). r.tally) x.answers ∙ rw n.1, x.list_holds ∙ rw n.1)

module _ (p : Pool) (t : Tally) (s : List ℕ) where
  counts_fits : (e : Ended) → e ≡ counts_of p t s → e.refusal ≡ counts_refusal p t s
  unfolding counts_of
  counts_fits e x = ap (λ (q : Ended). q.refusal) x ∙ end_number (counts_refusal p t s) p t (replay_of p t (trace_of s))

  counts_still : (e : Ended) → e ≡ counts_of p t s → (e.refusal ≡ 0 → ⊥) → (e.pool ≡ p) × (e.tally ≡ t)
  unfolding counts_of
  counts_still e x ne =
      let n = past (counts_refusal p t s) (λ z. ne (counts_fits e x ∙ z)) in
      (ap (λ (q : Ended). q.pool) x ∙ rw n.1, ap (λ (q : Ended). q.tally) x ∙ rw n.1)

sound_checked : (p : Pool) → (pool_refusal p ≡ 0) ↔ (sound_pool p ≡ true)
unfolding pool_refusal
sound_checked p = go (sound_pool p)
  where
    go : (b : Bool) → (demand b not_sound 0 ≡ 0) ↔ (b ≡ true)
    go true = (λ _. refl, λ _. refl)
    go false = (λ h. absurd (omega arith), λ h. absurd (true≢false (sym h)))

-- an image that is refused, and one that is not
image_answers : (s : List ℕ) → ((image_of s).refusal ≡ image_refusal s) × (sound_pool (image_of s).pool ≡ true) × ((image_refusal s ≡ 0 → ⊥) → (image_of s).pool ≡ fresh_pool one_frame)
unfolding image_of
image_answers s = go (image_refusal s) refl
  where
    go : (r : ℕ) → image_refusal s ≡ r → ((opened_or r (pool_of s)).refusal ≡ r) × (sound_pool (opened_or r (pool_of s)).pool ≡ true) × ((r ≡ 0 → ⊥) → (opened_or r (pool_of s)).pool ≡ fresh_pool one_frame)
    go zero e = (refl, (read_told s e).1, λ h. absurd (h refl))
    go (suc r) e = (refl, made (fresh_pool one_frame) (empty_sound one_frame one_ranged), λ h. refl)

held_answers : (s : List ℕ) → ((held_of s).refusal ≡ held_refusal s) × ((held_refusal s ≡ 0 → ⊥) → (held_of s).pool ≡ fresh_pool one_frame)
unfolding held_of
held_answers s = go (held_refusal s)
  where
    go : (r : ℕ) → ((opened_or r (pool_of s)).refusal ≡ r) × ((r ≡ 0 → ⊥) → (opened_or r (pool_of s)).pool ≡ fresh_pool one_frame)
    go zero = (refl, λ h. absurd (h refl))
    go (suc r) = (refl, λ h. refl)

-- a call that is lent one list, from a contract that gives its number and what the list holds then
lent : (Into : ℕ → List ℕ → Type 0) (n : ℕ) (numbers out : List ℕ) → Into n (stored n numbers out) → ((r : ℕ) (l : List ℕ) → Into r l → r ≡ n)
    → ((r : ℕ) (l : List ℕ) → Into r l → l ≡ stored n numbers out) → Call (ℕ × List ℕ) (λ o. Into o.0 o.1) (λ o. o.0) n (λ o. o.1 ≡ out)
lent Into n numbers out some answers holds = record {
  ends = ((n, stored n numbers out), some);
  one = λ a b x y.
      let e = answers a.0 a.1 x ∙ sym (answers b.0 b.1 y) in
      let f = holds a.0 a.1 x ∙ sym (holds b.0 b.1 y) in
      λ i. (e i, f i);
  fits = λ a x. answers a.0 a.1 x;
  still = λ a x ne. holds a.0 a.1 x ∙ sym (unstored n numbers out (λ e. ne (answers a.0 a.1 x ∙ e)));
}

calls : Calls
calls = record {
  read = λ s pages kinds. record {
    ends = ((_, _, _), record { answers = refl; pages_hold = refl; kinds_hold = refl });
    one = λ a b x y. let e = read_one s pages kinds a.0 b.0 a.1 b.1 a.2 b.2 x y in λ i. (e.0 i, e.1 i, e.2 i);
    fits = read_fits s pages kinds;
    still = read_still s pages kinds;
  };
  write = λ t out. lent (WrittenTo t out) (write_refusal t (length out)) (encode t) out (record { answers = refl; bytes_hold = refl }) (λ r l x. x.answers) (λ r l x. x.bytes_hold);
  convert = λ s out.
      lent (ConvertedTo s out) (convert_refusal s (length out)) (converted (trace_of s)) out (record { answers = refl; bytes_hold = refl }) (λ r l x. x.answers) (λ r l x. x.bytes_hold);
  step = λ p t page kind list. record {
    ends = ((_, _), record { answers = refl; list_holds = refl });
    one = λ a b x y. let e = step_one p t page kind list a.0 b.0 a.1 b.1 x y in λ i. (e.0 i, e.1 i);
    fits = step_fits p t page kind list;
    still = step_still p t page kind list;
  };
  replay = λ p t s rows written. record {
    ends = ((_, _, _), record { answers = refl; rows_hold = refl; written_hold = refl });
    one = λ a b x y. let e = replay_one p t s rows written a.0 b.0 a.1 b.1 a.2 b.2 x y in λ i. (e.0 i, e.1 i, e.2 i);
    fits = λ a x. returns_refusal p t s rows written a.0 a.1 a.2 x;
    still = λ a x ne. refused_call p t s rows written a.0 a.1 a.2 x ne;
  };
  counts = λ p t s. record { ends = (counts_of p t s, refl); one = counts_one p t s; fits = counts_fits p t s; still = counts_still p t s };
  transport = λ s out.
      lent (CountsInto s out) (host_refusal s (length out)) (count_bytes (trace_of s).order (fresh_counts (trace_of s))) out (record { answers = refl; out_holds = refl }) (λ r l x. x.answers)
      (λ r l x. x.out_holds);
  curve = λ s list.
      lent (CurveInto s list) (curve_refusal s sizes (length list)) (curve_of (trace_of s).pages) list (record { answers = refl; list_holds = refl }) (λ r l x. x.answers) (λ r l x. x.list_holds);
  curve_bytes = λ s out.
      lent (CurveBytesInto s out) (curve_refusal s curve_length (length out)) (words_of (trace_of s).order (curve_of (trace_of s).pages)) out (record { answers = refl; out_holds = refl })
      (λ r l x. x.answers) (λ r l x. x.out_holds);
  check = number_checked;
  fresh = λ x. (fresh_refusal x, fresh_sound x);
  image = image_answers;
  held = held_answers;
  save = λ p o out.
      lent (SavedTo p o out) (saving_refusal p (length out)) (encode_pool o p) out (record { answers = refl; bytes_hold = refl }) (λ r l x. x.answers) (λ r l x. x.bytes_hold);
  pool_check = sound_checked;
}

-- ---- a refused record

refused_counted : (t : Tally) (r : ℕ) → counted_by t (refused_row r) ≡ one_refused t
unfolding counted_by
refused_counted t r =
    rw (
      ne_eqb (refused_by r) 0 (λ e. omega arith),
      le-leb 1 (refused_by r) (omega arith),
      le-leb 2 (refused_by r) (omega arith),
      lt-leb (refused_by r) 3 (omega arith),
      ne_eqb (refused_by r) 3 (λ e. omega arith),
      le-leb 100 (refused_by r) (omega arith),
    )
    (simp add-zero)

shown : (p : Pool) (t : Tally) (page kind : ℕ) → is_refused (record_of p page kind).row ≡ true
    → OnlyShown p (record_of p page kind).pool [] (record_of p page kind).written t (counted_by t (record_of p page kind).row)
shown p t page kind h =
    let q = refused_still p page kind (leb-true (refused_by 0) (record_of p page kind).row.outcome h) in
    let e = q.same in record {
      pool = ap (λ (d : Did). d.pool) e;
      pages = ap (λ (d : Did). d.written) e;
      tally = ap (λ (d : Did). counted_by t d.row) e ∙ refused_counted t q.number;
    }

-- ---- want of a frame

positive : (n : ℕ) → eqb n 0 ≡ false → 0 < n
positive zero h = absurd (eqb-false 0 0 h refl)
positive (suc n) h = omega arith

-- a pinned frame is in use: an unused one is all zero
pinned_used : (p : Pool) (i : ℕ) → Sound p → i < p.settings.frames → 0 < (frame_at p.frames i).pins → (frame_at p.frames i).used ≡ true
pinned_used p i s l h = go (frame_at p.frames i).used refl
  where
    go : (u : Bool) → (frame_at p.frames i).used ≡ u → u ≡ true
    go true e = refl
    go false e =
        let few = (ranges p.settings s.settings).frames.1 in
        let z = ap (λ (fr : Frame). fr.pins) ((s.frame i (omega arith)).zero e) in
        absurd (omega arith)

module _ (p : Pool) (page : ℕ) where
  -- an unpin is refused by 11 or not at all
  unpin_frame : NoFrame (unpin_of p page).row → ⊥
  unpin_frame h = found (find_page p.frames page) refl
    where
      by : (d : Did) → unpin_of p page ≡ d → d.row.outcome ≡ 110
      by d e = sym (ap (λ (x : Did). x.row.outcome) e) ∙ h

      pinned : (b : Bool) (i : ℕ) → find_page p.frames page ≡ Some i → eqb (pins_at p i) 0 ≡ b → ⊥
      pinned true i a e = let n = by (refusal p not_pinned) (unpin_none p page i a e) in omega arith
      pinned false i a e = let n = ap (λ (x : Did). x.row.outcome) (unpin_one p page i a e) in omega arith

      found : (f : Option ℕ) → find_page p.frames page ≡ f → ⊥
      found (Some i) a = pinned (eqb (pins_at p i) 0) i a refl
      found None a = let n = by (refusal p not_pinned) (unpin_absent p page a) in omega arith

  module _ (s : Sound p) where
    every_pinned : ((i : ℕ) → i < p.settings.frames → 0 < (frame_at p.frames i).pins) → EveryPinned p
    every_pinned h i l = (pinned_used p i s l (h i l), ne_eqb (frame_at p.frames i).pins 0 (λ e. let n = h i l in omega arith))

    module _ (kind : ℕ) (reference : kind ≤ 2) (h : NoFrame (record_of p page kind).row) where
      wants : WantsFrame p page kind
      wants = limited (leb reference_limit p.k) refl
        where
          other : (d : Did) → record_of p page kind ≡ d → d.row.outcome ≡ 110
          other d e = sym (ap (λ (x : Did). x.row.outcome) e) ∙ h

          full : (b : Bool) (i : ℕ) → p.k < reference_limit → find_page p.frames page ≡ Some i → (eqb kind 2 && eqb (pins_at p i) pin_limit) ≡ b → WantsFrame p page kind
          full true i room a e = let n = other (refusal p pins_full) ((hit_answers p page kind reference room i a).0 e) in absurd (omega arith)
          full false i room a e = let n = ((hit_answers p page kind reference room i a).1 e).outcome in absurd (omega arith)

          found : (f : Option ℕ) → p.k < reference_limit → find_page p.frames page ≡ f → WantsFrame p page kind
          found (Some i) room a = full (eqb kind 2 && eqb (pins_at p i) pin_limit) i room a refl
          found None room a = record {
            reference = omega arith;
            within = room;
            missed = a;
            pinned = λ i l. positive (frame_at p.frames i).pins ((no_frame_lem p page kind reference s room a).0 h i (omega arith)).1;
          }

          limited : (b : Bool) → leb reference_limit p.k ≡ b → WantsFrame p page kind
          limited true e = let n = other (refusal p no_reference_left) (limit_refuses p page kind reference (leb-true reference_limit p.k e)) in absurd (omega arith)
          limited false e = found (find_page p.frames page) (leb-false reference_limit p.k e) refl

    -- by its kind
    frame_only : (kind : ℕ) → NoFrame (record_of p page kind).row → WantsFrame p page kind
    unfolding record_of
    frame_only zero h = wants zero (omega arith) h
    frame_only (suc zero) h = wants (suc zero) (omega arith) h
    frame_only (suc (suc zero)) h = wants (suc (suc zero)) (omega arith) h
    frame_only (suc (suc (suc zero))) h = absurd (unpin_frame h)
    frame_only (suc (suc (suc (suc kind)))) h = absurd (omega arith)

    frame_where : (kind : ℕ) → WantsFrame p page kind → NoFrame (record_of p page kind).row
    frame_where kind w = (no_frame_lem p page kind w.reference s w.within w.missed).1 (every_pinned w.pinned)

    frame_exactly : (kind : ℕ) → NoFrame (record_of p page kind).row ↔ WantsFrame p page kind
    frame_exactly kind = (frame_only kind, frame_where kind)

-- ---- a step, and each record of a replay

step_shown : (p : Pool) (t : Tally) (page kind : ℕ) (list : List ℕ) (r : Stepped) (list' : List ℕ) → StepInto p t page kind list r list' → r.refusal ≡ 0 → InStep p t page kind list r list'
step_shown p t page kind list r list' x z =
    let none : step_refusal p t kind (length list) ≡ 0 = sym (step_fits p t page kind list (r, list') x) ∙ z in
    let e : r ≡ stepped_of 0 p t (record_of p page kind) = x.answers ∙ rw none in
    let w = ap (λ (q : Stepped). q.row) e in record {
      refused = λ h. let o = shown p t page kind (ap is_refused (sym w) ∙ h) in record {
        pool = ap (λ (q : Stepped). q.pool) e ∙ o.pool;
        pages = x.list_holds ∙ rw (none, o.pages);
        tally = ap (λ (q : Stepped). q.tally) e ∙ o.tally;
      };
      frame = subst (λ (v : Row). NoFrame v ↔ WantsFrame p page kind) (sym w) (frame_exactly p page (told p (begins_sound p t (step_met p t kind (length list) none).0)) kind);
    }

module _ (p : Pool) (t : Tally) (trace : Trace) (i : ℕ) where
  row_shown : is_refused (doing p t trace i).row ≡ true
      → OnlyShown (replay_to p t trace i).pool (replay_to p t trace (suc i)).pool (replay_to p t trace i).written (replay_to p t trace (suc i)).written
      (replay_to p t trace i).tally (replay_to p t trace (suc i)).tally
  row_shown h =
      let e = replay_suc p t trace i in
      let o = shown (replay_to p t trace i).pool (replay_to p t trace i).tally (record_in trace i).page (record_in trace i).kind h in record {
        pool = ap (λ (r : Played). r.pool) e ∙ o.pool;
        pages = ap (λ (r : Played). r.written) e ∙ rw o.pages (append-nil (replay_to p t trace i).written);
        tally = ap (λ (r : Played). r.tally) e ∙ o.tally;
      }

replay_shown : (p : Pool) (t : Tally) (s : List ℕ) → Stored p s → (rows written : List ℕ) (r : Ended) (rows' written' : List ℕ)
    → ReplayInto p t s rows written r rows' written' → r.refusal ≡ 0 → (i : ℕ) → i < length (trace_of s).pages → InReplay p t (trace_of s) rows' i
replay_shown p t s stored rows written r rows' written' x z i l =
    let w = each_record p t s rows written r rows' written' x z i l in
    let b = begun p t s rows written r rows' written' x z in
    let sized : Sized p = record { frames = stored.frames; access = stored.access; write = stored.write } in
    let g = going p t (trace_of s) (told p (begins_sound p t b)) sized (begins_within p t b) i in record {
      refused = λ h. row_shown p t (trace_of s) i (ap is_refused (sym w) ∙ h);
      frame = subst (λ (v : Row). NoFrame v ↔ WantsFrame (replay_to p t (trace_of s) i).pool (record_in (trace_of s) i).page (record_in (trace_of s) i).kind) (sym w)
          (frame_exactly (replay_to p t (trace_of s) i).pool (record_in (trace_of s) i).page g.sound (record_in (trace_of s) i).kind);
    }

-- the theorem
pub first_demand : FirstDemand
first_demand = record {
  calls = calls;
  answers = record { none = answer_one; checked = checked_one; opened = opened_one; stepped = stepped_one; ended = ended_one };
  record_alone = record { refused = shown; frame = λ p page kind s. frame_exactly p page (told p s) kind; used = λ p i s. pinned_used p i (told p s) };
  step = step_shown;
  replay = replay_shown;
}

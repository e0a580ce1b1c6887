-- By LRU from a fresh pool, a pool of f frames holds the f most recently used pages after every record.
use mathlib.Core.Path.{◌≡◌, refl, ap, sym, subst, ◌∙◌}
use mathlib.Core.Bool.{false, not, true≢false}
use mathlib.Core.List.{List, []}
use Prim.Native.Nat.{ℕ, zero, suc, ◌+◌, ◌≤◌, ◌<◌}
use native.Mathlib.Omega.{arith}
use lib.ListN.{length, get_or, take, length-take, get_or-replicate, length-replicate}
use lib.Seq.{take-nil}
use borrow.Author.Tests.{le-ltb}
use Rattle.std.specs.Prelude.{Option, Some, None}
use Rattle.search.specs.Search.{is_found, among, one_if}
use Rattle.search.proofs.Count.{count_none, count_suc}
use Rattle.settings.specs.declared.Settings.{Settings}
use Rattle.trace.specs.Layout.{Trace, record_in}
use Rattle.pool.specs.declared.Frame.{Frame}
use Rattle.pool.specs.declared.Pool.{Pool}
use Rattle.pool.specs.Pool.{empty_frame, frame_at, fresh_pool}
use Rattle.pool.proofs.Sound.{Sound}
use Rattle.pool.proofs.Sizes.{Sized}
use Rattle.pool.proofs.Opening.{empty_sound}
use Rattle.reference.specs.Search.{find_page}
use Rattle.tally.specs.declared.Tally.{Tally}
use Rattle.tally.specs.Tally.{counted_by}
use Rattle.tally.proofs.Laws.{within_own}
use Rattle.effect.specs.Record.{Did}
use Rattle.replay.specs.Replay.{Played, replay_to}
use Rattle.replay.proofs.Laws.{doing, replay_none, replay_suc}
use Rattle.replay.proofs.Going.{going}
use Rattle.distance.specs.Distance.{distance_at, within, misses_to}
use Rattle.distance.specs.Recent.{touched, recent}
use Rattle.distance.proofs.Stack.{recent_none, top_suc}
use Rattle.distance.proofs.Places.{distance_among}
use Rattle.recency.specs.Ordered.{InUse, last_in, Ordered}
use Rattle.recency.specs.Recency.{Lru, Plain, holds, pool_after, Recency, RecencyLaw}
use Rattle.recency.proofs.Falling.{falling_none}
use Rattle.recency.proofs.Step.{NonePinned, found_listed, absent_unlisted, Went, record_went}

-- a fresh pool has no frame in use
empty_frame_lem : (s : Settings) (i : ℕ) → i < 128 → frame_at (fresh_pool s).frames i ≡ empty_frame
unfolding fresh_pool
empty_frame_lem s i l = get_or-replicate 128 i empty_frame empty_frame l

pub fresh_sized : (s : Settings) → Sized (fresh_pool s)
unfolding fresh_pool
fresh_sized s = record { frames = length-replicate 128 empty_frame; access = length-replicate {A = ℕ} 1024 0; write = length-replicate {A = ℕ} 512 0 }

fresh_ordered : (s : Settings) (f : ℕ) → Ordered (fresh_pool s) (take f [])
fresh_ordered s f =
    let off : (i : ℕ) → i < 128 → (frame_at (fresh_pool s).frames i).used ≡ false = λ i l. ap (λ (fr : Frame). fr.used) (empty_frame_lem s i l) in record {
      frames = [];
      falls = falling_none (InUse (fresh_pool s)) (last_in (fresh_pool s)) (fresh_pool s).k;
      all = λ i l u. absurd (true≢false (sym u ∙ off i l));
      first = λ i l. off i l ∙ sym (le-ltb i 0 (omega arith));
      pages_are = sym (take-nil f);
    }

fresh_settings : (s : Settings) → (fresh_pool s).settings ≡ s
unfolding fresh_pool
fresh_settings s = refl

pub fresh_k : (s : Settings) → (fresh_pool s).k ≡ 0
unfolding fresh_pool
fresh_k s = refl

-- a page is in the pool exactly where it is on the list
listed : (p : Pool) (pages : List ℕ) → Ordered p pages → Sound p → (page : ℕ) → holds p page ≡ among pages page
listed p pages o s page = go (find_page p.frames page) refl
  where
    go : (f : Option ℕ) → find_page p.frames page ≡ f → is_found f ≡ among pages page
    go (Some i) e = sym (found_listed p pages o s page i e)
    go None e = sym (absent_unlisted p pages o s page e)

module _ (s : Settings) (t : Tally) (trace : Trace) (lru : Lru s) (plain : Plain trace) where
  abbrev stack : ℕ → List ℕ
  stack n = take s.frames (recent trace.pages n)

  -- what holds after n records
  record Along (n : ℕ) (p : Pool) : Type 0 where
    ordered : Ordered p (stack n)
    k : p.k ≡ n
    unpinned : NonePinned p

  begins : Along 0 (fresh_pool s)
  begins = record {
    ordered = rw (recent_none trace.pages) (fresh_ordered s s.frames);
    k = fresh_k s;
    unpinned = λ i l. ap (λ (fr : Frame). fr.pins) (empty_frame_lem s i l);
  }

  -- its pool is sound, of full length and of the same settings
  record Kept (p : Pool) : Type 0 where
    sound : Sound p
    sized : Sized p
    settings : p.settings ≡ s

  kept : (n : ℕ) → Kept (pool_after s t trace n)
  kept n =
      let g = going (fresh_pool s) t trace (empty_sound s lru.range) (fresh_sized s) (within_own t) n in
      record { sound = g.sound; sized = g.sized; settings = g.settings ∙ fresh_settings s }

  -- what record n does
  does : (n : ℕ) → n < length trace.pages → Along n (pool_after s t trace n) → Went (pool_after s t trace n) (get_or trace.pages n 0) (stack n) (doing (fresh_pool s) t trace n)
  does n l a =
      let p = pool_after s t trace n in
      let g = kept n in
      let few = plain.few in
      let k = a.k in
      let short = length-take s.frames (recent trace.pages n) in
      let same = ap (λ (x : Settings). x.frames) g.settings in
      record_went p g.sound g.sized a.unpinned (ap (λ (x : Settings). x.rule) g.settings ∙ lru.rule) (omega arith)
      (stack n) a.ordered (omega arith) (record_in trace n).page (record_in trace n).kind (plain.kinds n l)

  next : (n : ℕ) (p : Pool) (d : Did) → p.settings ≡ s → Along n p → Went p (get_or trace.pages n 0) (stack n) d → Along (suc n) d.pool
  next n p d e a w =
      let k = a.k in
      let m = w.k in record {
        ordered = rw (top_suc trace.pages s.frames n) (subst (λ (x : Settings). Ordered d.pool (take x.frames (touched (get_or trace.pages n 0) (stack n)))) e w.ordered);
        k = omega arith;
        unpinned = w.unpinned;
      }

  along : (n : ℕ) → n ≤ length trace.pages → Along n (pool_after s t trace n)
  along zero l = subst (λ (r : Played). Along 0 r.pool) (sym (replay_none (fresh_pool s) t trace)) begins
  along (suc n) l =
      let a = along n (omega arith) in
      subst (λ (r : Played). Along (suc n) r.pool) (sym (replay_suc (fresh_pool s) t trace n))
      (next n (pool_after s t trace n) (doing (fresh_pool s) t trace n) (kept n).settings a (does n l a))

  went : (n : ℕ) → n < length trace.pages → Went (pool_after s t trace n) (get_or trace.pages n 0) (stack n) (doing (fresh_pool s) t trace n)
  went n l = does n l (along n (omega arith))

  -- the misses so far
  counts : (n : ℕ) → n ≤ length trace.pages → (replay_to (fresh_pool s) t trace n).tally.misses ≡ t.misses + misses_to trace.pages s.frames n
  unfolding misses_to counted_by
  counts zero l =
      let none = count_none (λ i. not (within s.frames (distance_at trace.pages i))) in
      ap (λ (r : Played). r.tally.misses) (replay_none (fresh_pool s) t trace) ∙ omega arith
  counts (suc n) l =
      let h = counts n (omega arith) in
      let w = ap one_if ((went n l).misses ∙ ap not (sym (distance_among trace.pages s.frames n))) in
      let more = count_suc (λ i. not (within s.frames (distance_at trace.pages i))) n in
      ap (λ (r : Played). r.tally.misses) (replay_suc (fresh_pool s) t trace n) ∙ omega arith

  law : Recency s t trace
  law = record {
    ordered = λ n l. (along n l).ordered;
    held = λ n l page. listed (pool_after s t trace n) (stack n) (along n l).ordered (kept n).sound page;
    accepted = λ n l. (along n l).k;
    hits = λ n l. (went n l).hits ∙ sym (distance_among trace.pages s.frames n);
    misses = λ n l. (went n l).misses ∙ ap not (sym (distance_among trace.pages s.frames n));
    counted = counts;
  }

pub recency_law : RecencyLaw
recency_law = law

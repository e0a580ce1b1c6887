-- What every record keeps: a sound pool stays sound, its settings stay, and no more pages are written than were dirty.
use mathlib.Core.Path.{◌≡◌, refl, ap, sym, subst, ◌∙◌}
use mathlib.Core.Bool.{Bool, true, false, ◌&&◌}
use mathlib.Core.List.{List, []}
use Prim.Native.Nat.{ℕ, zero, suc, ◌+◌, ◌≤◌, ◌<◌}
use native.Mathlib.Omega.{arith}
use lib.ListN.{length}
use lib.Dec.{eqb, leb}
use borrow.Author.Tests.{leb-false}
use Rattle.refusal.specs.Refusals.{bad_field, no_reference_left, no_frame, not_pinned, pins_full}
use Rattle.std.specs.Prelude.{Option, Some, None}
use Rattle.search.specs.Search.{one_if}
use Rattle.search.proofs.Every.{pick_ind}
use Rattle.settings.specs.declared.Settings.{Settings}
use Rattle.settings.proofs.Laws.{ranges}
use Rattle.pool.specs.declared.Pool.{Pool}
use Rattle.limit.specs.Limits.{reference_limit}
use Rattle.pool.specs.Pool.{frame_at, with_frames}
use Rattle.pool.proofs.Sound.{Sound, made}
use Rattle.pool.proofs.Sizes.{Sized}
use Rattle.pool.proofs.Quiet.{Quiet}
use Rattle.reference.specs.Search.{find_page, lowest_unused}
use Rattle.reference.specs.Reference.{referred, hit_at, fetched_at, pinned_at, unpinned_at}
use Rattle.reference.proofs.Keeps.{find_used, pin_sound, unpin_sound, hit_sound, hit_sized, unused_sound, unused_sized, victim_sound, victim_sized, quiet_find, quiet_unused}
use Rattle.reference.proofs.Referred.{hit_used, fetch_used, pin_sized, unpin_sized}
use Rattle.victim.specs.Choice.{left_by}
use Rattle.victim.specs.Rules.{choice_of}
use Rattle.victim.proofs.Rules.{choice_owes, choice_sized}
use Rattle.batch.specs.Batch.{batch_of, cleaned}
use Rattle.batch.proofs.Cleaned.{pages_length}
use Rattle.batch.proofs.Laws.{batch_length, cleaned_quiet, batch_sound, batch_sized}
use Rattle.tally.specs.Rows.{row, hit, miss_unused, unpin_done}
use Rattle.effect.specs.Record.{Did, did, pin_limit, pins_at, refusal, pinned_where, filled, hit_of, leaving_of, eviction_of, miss_of, reference_of, unpin_of, record_of, dirty_in}
use Rattle.effect.proofs.Ways.{unused_few, at_limit, resident, absent, free, full, victim, no_victim, unpin_absent, unpin_none, unpin_one}
use Rattle.effect.proofs.Dirty.{hit_spent, fetch_spent, pin_spent, unpin_spent, choice_spent, batch_spent}

-- a pool afterwards: sound, of the same settings, its arrays as long as they were, and at most so many frames dirty
pub record Held (p q : Pool) (dirty : ℕ) : Type 0 where
  pub sound : Sound q
  pub sized : Sized q
  pub settings : q.settings ≡ p.settings
  pub few : dirty_in q.frames ≤ dirty

-- what a record did that makes at most w frames dirty
pub record Kept (p : Pool) (w : ℕ) (d : Did) : Type 0 where
  pub sound : Sound d.pool
  pub sized : Sized d.pool
  pub settings : d.pool.settings ≡ p.settings
  pub counted : d.row.batch ≡ length d.written
  pub few : length d.written ≤ p.settings.batch
  pub spent : length d.written + dirty_in d.pool.frames ≤ dirty_in p.frames + w

module _ (p : Pool) (s : Sound p) (z : Sized p) where
  refusal_kept : (w r : ℕ) → Kept p w (refusal p r)
  refusal_kept w r = record { sound = s; sized = z; settings = refl; counted = refl; few = omega arith; spent = omega arith }

  -- where nothing is written
  unwritten_kept : (w outcome i : ℕ) (q : Pool) → Held p q (dirty_in p.frames + w) → Kept p w (did (row outcome i 0 0) [] q)
  unwritten_kept w outcome i q h = record { sound = h.sound; sized = h.sized; settings = h.settings; counted = refl; few = omega arith; spent = let n = h.few in omega arith }

-- a pin where it is asked for
pinned_held : (p q : Pool) (n i : ℕ) (pin : Bool) → i < 128 → (frame_at q.frames i).used ≡ true → Held p q n → Held p (pinned_where q pin i) n
unfolding pinned_at
pinned_held p q n i true l u h = record {
  sound = pin_sound q h.sound h.sized i l u;
  sized = pin_sized q i h.sized;
  settings = h.settings;
  few = let e = pin_spent q h.sized i l in let m = h.few in omega arith;
}
pinned_held p q n i false l u h = h

-- an unpin
unpinned_held : (p : Pool) (s : Sound p) (z : Sized p) (i : ℕ) → i < 128 → (frame_at p.frames i).used ≡ true → Held p (unpinned_at p i) (dirty_in p.frames + 0)
unfolding unpinned_at
unpinned_held p s z i l u = record { sound = unpin_sound p s z i l u; sized = unpin_sized p i z; settings = refl; few = let e = unpin_spent p z i l in omega arith }

module _ (p : Pool) (s : Sound p) (z : Sized p) (room : p.k < reference_limit) (write pin : Bool) where
  hit_held : (i : ℕ) → i < 128 → (frame_at p.frames i).used ≡ true → Held p (hit_at p i write) (dirty_in p.frames + one_if write)
  unfolding hit_at referred
  hit_held i l u = record { sound = hit_sound p s z i l u write room; sized = hit_sized p s z i l u write room; settings = refl; few = hit_spent p z i l write }

  hit_kept : (i : ℕ) → i < 128 → (frame_at p.frames i).used ≡ true → Kept p (one_if write) (hit_of p i write pin)
  unfolding hit_of
  hit_kept i l u =
      pick_ind (Kept p (one_if write)) (pin && eqb (pins_at p i) pin_limit) (refusal p pins_full) (did (row hit i 0 0) [] (pinned_where (hit_at p i write) pin i))
      (λ _. refusal_kept p s z (one_if write) pins_full)
      (λ _. unwritten_kept p s z (one_if write) hit i (pinned_where (hit_at p i write) pin i)
      (pinned_held p (hit_at p i write) (dirty_in p.frames + one_if write) i pin l (hit_used p z i l write ∙ u) (hit_held i l u)))

  module _ (page : ℕ) (miss : find_page p.frames page ≡ None) where
    free_kept : (i : ℕ) → lowest_unused p ≡ Some i → i < 128 → Kept p (one_if write) (did (row miss_unused i 0 0) [] (filled p i page write pin))
    unfolding fetched_at referred
    free_kept i e l =
        unwritten_kept p s z (one_if write) miss_unused i (filled p i page write pin)
        (pinned_held p (fetched_at p i page write) (dirty_in p.frames + one_if write) i pin l (fetch_used p z i l page write)
        (record { sound = unused_sound p s z page miss room i write e; sized = unused_sized p s z page miss room i write e; settings = refl; few = fetch_spent p z i l page write }))

    -- victim v of a pool q as the rule leaves it
    module _ (q : Pool) (v : ℕ) (none : lowest_unused p ≡ None) (sq : Sound q) (zq : Sized q) (quiet : Quiet p q) (same : dirty_in q.frames ≡ dirty_in p.frames) (within : v < q.settings.frames) where
      abbrev b : List ℕ
      b = batch_of q v

      abbrev r : Pool
      r = with_frames q (cleaned q.frames b)

      few_v : v < 128
      few_v = let f = (ranges q.settings sq.settings).frames.1 in omega arith

      absent_r : find_page r.frames page ≡ None
      absent_r = quiet_find q r sq (cleaned_quiet q sq b) page ∙ quiet_find p q s quiet page ∙ miss

      full_r : lowest_unused r ≡ None
      full_r = quiet_unused q r sq (cleaned_quiet q sq b) ∙ quiet_unused p q s quiet ∙ none

      room_r : r.k < reference_limit
      room_r = let e = quiet.k in omega arith

      left_held : Held p (fetched_at r v page write) (dirty_in r.frames + one_if write)
      unfolding fetched_at referred
      left_held = record {
        sound = victim_sound r (batch_sound q sq v) (batch_sized q v zq) page absent_r room_r v write full_r within;
        sized = victim_sized r (batch_sound q sq v) (batch_sized q v zq) page absent_r room_r v write full_r within;
        settings = quiet.settings;
        few = fetch_spent r (batch_sized q v zq) v few_v page write;
      }

      leaving_kept : Kept p (one_if write) (leaving_of q v page write pin)
      unfolding leaving_of
      leaving_kept =
          let h = pinned_held p (fetched_at r v page write) (dirty_in r.frames + one_if write) v pin few_v (fetch_used r (batch_sized q v zq) v few_v page write) left_held in
          let n = pages_length q.frames b in
          let spent = batch_spent q sq v few_v zq in
          let long = batch_length q sq v in
          let set = ap (λ (x : Settings). x.batch) quiet.settings in
          let m = h.few in
          record { sound = h.sound; sized = h.sized; settings = h.settings; counted = sym n; few = omega arith; spent = omega arith }

    miss_kept : Kept p (one_if write) (miss_of p page write pin)
    miss_kept = go (lowest_unused p) refl
      where
        chosen : (f : Option ℕ) → lowest_unused p ≡ None → (choice_of p).found ≡ f → Kept p (one_if write) (eviction_of p page write pin)
        chosen (Some v) none e =
            subst (Kept p (one_if write)) (sym (victim p page write pin (choice_of p) v refl e))
            (leaving_kept (left_by p (choice_of p)) v none (choice_owes.sound p s) (choice_sized p z) (choice_owes.quiet p s) (choice_spent p) (choice_owes.unpinned p v s e).0)
        chosen None none e = subst (Kept p (one_if write)) (sym (no_victim p page write pin e)) (refusal_kept p s z (one_if write) no_frame)

        go : (f : Option ℕ) → lowest_unused p ≡ f → Kept p (one_if write) (miss_of p page write pin)
        go (Some i) e = subst (Kept p (one_if write)) (sym (free p page write pin i e)) (free_kept i e (unused_few p i (made p s) e))
        go None e = subst (Kept p (one_if write)) (sym (full p page write pin e)) (chosen (choice_of p).found e refl)

module _ (p : Pool) (s : Sound p) (z : Sized p) (page : ℕ) where
  reference_kept : (write pin : Bool) → Kept p (one_if write) (reference_of p page write pin)
  reference_kept write pin = go (leb reference_limit p.k) refl
    where
      found : (f : Option ℕ) → leb reference_limit p.k ≡ false → find_page p.frames page ≡ f → Kept p (one_if write) (reference_of p page write pin)
      found (Some i) e a =
          let u = find_used p s page i a in
          subst (Kept p (one_if write)) (sym (resident p page write pin i e a)) (hit_kept p s z (leb-false reference_limit p.k e) write pin i u.0 u.1)
      found None e a = subst (Kept p (one_if write)) (sym (absent p page write pin e a)) (miss_kept p s z (leb-false reference_limit p.k e) write pin page a)

      go : (b : Bool) → leb reference_limit p.k ≡ b → Kept p (one_if write) (reference_of p page write pin)
      go true e = subst (Kept p (one_if write)) (sym (at_limit p page write pin e)) (refusal_kept p s z (one_if write) no_reference_left)
      go false e = found (find_page p.frames page) e refl

  unpin_kept : Kept p 0 (unpin_of p page)
  unpin_kept = go (find_page p.frames page) refl
    where
      pinned : (b : Bool) (i : ℕ) → find_page p.frames page ≡ Some i → eqb (pins_at p i) 0 ≡ b → Kept p 0 (unpin_of p page)
      pinned true i a e = subst (Kept p 0) (sym (unpin_none p page i a e)) (refusal_kept p s z 0 not_pinned)
      pinned false i a e =
          let u = find_used p s page i a in
          subst (Kept p 0) (sym (unpin_one p page i a e))
          (unwritten_kept p s z 0 unpin_done i (unpinned_at p i) (unpinned_held p s z i u.0 u.1))

      go : (f : Option ℕ) → find_page p.frames page ≡ f → Kept p 0 (unpin_of p page)
      go (Some i) a = pinned (eqb (pins_at p i) 0) i a refl
      go None a = subst (Kept p 0) (sym (unpin_absent p page a)) (refusal_kept p s z 0 not_pinned)

  -- every record keeps a sound pool sound
  pub record_kept : (kind : ℕ) → Kept p (one_if (eqb kind 1)) (record_of p page kind)
  unfolding record_of
  record_kept zero = reference_kept false false
  record_kept (suc zero) = reference_kept true false
  record_kept (suc (suc zero)) = reference_kept false true
  record_kept (suc (suc (suc zero))) = unpin_kept
  record_kept (suc (suc (suc (suc kind)))) = refusal_kept p s z (one_if (eqb (suc (suc (suc (suc kind)))) 1)) bad_field

-- The pages of the frames in use after a record are among those before it and the record's.
use mathlib.Core.Path.{◌≡◌, refl, sym, subst}
use mathlib.Core.Bool.{Bool, true, false, ◌&&◌}
use mathlib.Core.List.{List, [], ◌∷◌}
use Prim.Native.Nat.{ℕ, zero, suc, ◌+◌, ◌-◌}
use lib.ListN.{set}
use lib.Dec.{eqb, leb}
use Rattle.refusal.specs.Refusals.{pins_full}
use Rattle.std.specs.Prelude.{Option, Some, None}
use Rattle.search.specs.Search.{among}
use Rattle.search.proofs.Every.{pick_ind}
use Rattle.pool.specs.declared.Frame.{Frame}
use Rattle.pool.specs.declared.Pool.{Pool}
use Rattle.limit.specs.Limits.{reference_limit}
use Rattle.pool.specs.Pool.{frame_at, with_count, with_frames, with_frame, with_pins}
use Rattle.reference.specs.Search.{find_page, lowest_unused}
use Rattle.reference.specs.Reference.{raised, new_frame, referred_frame, referred, emptied, hit_at, fetched_at, pinned_at, unpinned_at}
use Rattle.victim.specs.Choice.{left_by}
use Rattle.victim.specs.Rules.{choice_of}
use Rattle.victim.proofs.Rules.{choice_owes}
use Rattle.batch.specs.Batch.{batch_of, clean_frame, cleaned}
use Rattle.batch.proofs.Cleaned.{cleaned_at}
use Rattle.tally.specs.Rows.{row, hit}
use Rattle.effect.specs.Record.{Did, did, pin_limit, pins_at, refusal, pinned_where, filled, hit_of, leaving_of, eviction_of, miss_of, reference_of, unpin_of, record_of}
use Rattle.effect.proofs.Ways.{at_limit, resident, absent, free, full, victim, no_victim, unpin_absent, unpin_none, unpin_one}
use Rattle.rename.proofs.Frames.{Listed, AllListed}

-- a frame of a list in which one was replaced is the new one or the old one
set_either : (P : Frame → Type 0) (fs : List Frame) (i j : ℕ) (g : Frame) → P g → P (frame_at fs j) → P (frame_at (set fs i g) j)
set_either P [] i j g new old = old
set_either P (fr ∷ fs) zero zero g new old = new
set_either P (fr ∷ fs) zero (suc j) g new old = old
set_either P (fr ∷ fs) (suc i) zero g new old = old
set_either P (fr ∷ fs) (suc i) (suc j) g new old = set_either P fs i j g new old

module _ (pages : List ℕ) where
  -- after what a record did
  abbrev After : Did → Type 0
  After d = AllListed pages d.pool.frames

  set_listed : (fs : List Frame) (i : ℕ) (g : Frame) → AllListed pages fs → Listed pages g → AllListed pages (set fs i g)
  set_listed fs i g h n j = set_either (Listed pages) fs i j g n (h j)

  module _ (p : Pool) (h : AllListed pages p.frames) where
    referred_listed : (i : ℕ) (write : Bool) → AllListed pages (referred p i write).frames
    unfolding referred
    referred_listed i write = set_listed p.frames i (referred_frame p i write) h (h i)

    pinned_listed : (pin : Bool) (i : ℕ) → AllListed pages (pinned_where p pin i).frames
    unfolding pinned_at
    pinned_listed true i = set_listed p.frames i (with_pins (frame_at p.frames i) ((frame_at p.frames i).pins + 1)) h (h i)
    pinned_listed false i = h

    unpinned_listed : (i : ℕ) → AllListed pages (unpinned_at p i).frames
    unfolding unpinned_at
    unpinned_listed i = set_listed p.frames i (with_pins (frame_at p.frames i) ((frame_at p.frames i).pins - 1)) h (h i)

    chosen_listed : AllListed pages (choice_of p).frames
    chosen_listed i = subst (Listed pages) (sym (choice_owes.lowers p i).kept) (h i)

    cleaned_listed : (xs : List ℕ) → AllListed pages (cleaned p.frames xs)
    cleaned_listed xs i =
        subst (Listed pages) (sym (cleaned_at p.frames xs i))
        (pick_ind (Listed pages) (among xs i) (clean_frame (frame_at p.frames i)) (frame_at p.frames i) (λ _. h i) (λ _. h i))

  module _ (p : Pool) (h : AllListed pages p.frames) where
    abbrev raised_frame : ℕ → Frame
    raised_frame i = with_count (frame_at p.frames i) (raised p.settings.cap (frame_at p.frames i).count)

    hit_listed : (i : ℕ) (write pin : Bool) → After (hit_of p i write pin)
    unfolding hit_of hit_at
    hit_listed i write pin =
        pick_ind After (pin && eqb (pins_at p i) pin_limit) (refusal p pins_full) (did (row hit i 0 0) [] (pinned_where (hit_at p i write) pin i))
        (λ _. h)
        (λ _. pinned_listed (hit_at p i write) (referred_listed (with_frame p i (raised_frame i)) (set_listed p.frames i (raised_frame i) h (h i)) i write) pin i)

    unpin_listed : (page : ℕ) → After (unpin_of p page)
    unpin_listed page = go (find_page p.frames page) refl
      where
        one : (b : Bool) (i : ℕ) → find_page p.frames page ≡ Some i → eqb (pins_at p i) 0 ≡ b → After (unpin_of p page)
        one true i a e = subst After (sym (unpin_none p page i a e)) h
        one false i a e = subst After (sym (unpin_one p page i a e)) (unpinned_listed p h i)

        go : (f : Option ℕ) → find_page p.frames page ≡ f → After (unpin_of p page)
        go (Some i) a = one (eqb (pins_at p i) 0) i a refl
        go None a = subst After (sym (unpin_absent p page a)) h

  module _ (page : ℕ) (here : among pages page ≡ true) (write pin : Bool) where
    filled_listed : (p : Pool) → AllListed pages p.frames → (i : ℕ) → AllListed pages (filled p i page write pin).frames
    unfolding fetched_at
    filled_listed p h i = pinned_listed (fetched_at p i page write) (referred_listed (emptied p i page) (set_listed p.frames i (new_frame page) h (λ _. here)) i write) pin i

    leaving_listed : (p : Pool) → AllListed pages p.frames → (v : ℕ) → After (leaving_of p v page write pin)
    unfolding leaving_of
    leaving_listed p h v = filled_listed (with_frames p (cleaned p.frames (batch_of p v))) (cleaned_listed p h (batch_of p v)) v

    module _ (p : Pool) (h : AllListed pages p.frames) where
      evicted_listed : After (eviction_of p page write pin)
      evicted_listed = go (choice_of p).found refl
        where
          go : (f : Option ℕ) → (choice_of p).found ≡ f → After (eviction_of p page write pin)
          go (Some v) e = subst After (sym (victim p page write pin (choice_of p) v refl e)) (leaving_listed (left_by p (choice_of p)) (chosen_listed p h) v)
          go None e = subst After (sym (no_victim p page write pin e)) h

      missed_listed : After (miss_of p page write pin)
      missed_listed = go (lowest_unused p) refl
        where
          go : (f : Option ℕ) → lowest_unused p ≡ f → After (miss_of p page write pin)
          go (Some i) e = subst After (sym (free p page write pin i e)) (filled_listed p h i)
          go None e = subst After (sym (full p page write pin e)) evicted_listed

      reference_listed : After (reference_of p page write pin)
      reference_listed = go (leb reference_limit p.k) (find_page p.frames page) refl refl
        where
          go : (b : Bool) (f : Option ℕ) → leb reference_limit p.k ≡ b → find_page p.frames page ≡ f → After (reference_of p page write pin)
          go true f e a = subst After (sym (at_limit p page write pin e)) h
          go false (Some i) e a = subst After (sym (resident p page write pin i e a)) (hit_listed p h i write pin)
          go false None e a = subst After (sym (absent p page write pin e a)) missed_listed

  -- every record
  pub record_listed : (p : Pool) → AllListed pages p.frames → (page : ℕ) → among pages page ≡ true → (kind : ℕ) → AllListed pages (record_of p page kind).pool.frames
  unfolding record_of
  record_listed p h page here zero = reference_listed page here false false p h
  record_listed p h page here (suc zero) = reference_listed page here true false p h
  record_listed p h page here (suc (suc zero)) = reference_listed page here false true p h
  record_listed p h page here (suc (suc (suc zero))) = unpin_listed p h page
  record_listed p h page here (suc (suc (suc (suc kind)))) = h

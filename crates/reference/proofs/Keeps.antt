-- Each reference, pin and unpin keeps a sound pool sound; what is found is the only frame with that page; other frames stay.
use mathlib.Core.Path.{◌≡◌, refl, ap, sym, subst, ◌∙◌}
use mathlib.Core.Bool.{Bool, true, true≢false, false≢true, and-eq-true_iff}
use Prim.Native.Nat.{ℕ, ◌+◌, ◌-◌, ◌*◌, ◌<◌}
use native.Mathlib.Omega.{arith}
use native.Mathlib.Decide.{dec_lt}
use lib.ListN.{length-set}
use lib.Seq.{get_or-set_same, get_or-set_other}
use lib.Dec.{eqb}
use borrow.Author.Tests.{eq-eqb, eqb-true}
use Rattle.std.specs.Prelude.{Some, None}
use Rattle.search.specs.Search.{least_below, never}
use Rattle.search.proofs.Least.{least_sound, least_none, least_cong, first_lowest}
use Rattle.search.proofs.Every.{undenied}
use Rattle.settings.specs.declared.Settings.{Settings}
use Rattle.settings.proofs.Laws.{ranges}
use Rattle.pool.specs.declared.Frame.{Frame}
use Rattle.pool.specs.declared.Pool.{Pool}
use Rattle.limit.specs.Limits.{reference_limit}
use Rattle.pool.specs.Pool.{empty_frame, frame_at, now_of, last_epoch_of, with_count, with_frame, with_pins}
use Rattle.pool.proofs.Sound.{Sound}
use Rattle.pool.proofs.Epochs.{last_before_now}
use Rattle.pool.proofs.Sizes.{Sized, access_room_lem, write_room_lem}
use Rattle.pool.proofs.Quiet.{Alike, Quiet, sound_quiet}
use Rattle.reference.specs.Search.{has, find_page, unused, lowest_unused}
use Rattle.reference.specs.Reference.{raised, new_frame, emptied, hit_at, fetched_at, pinned_at, unpinned_at}
use Rattle.reference.proofs.Logs.{clear_length}
use Rattle.reference.proofs.Logged.{logged_up, logged_same, clear_logged, clear_other}
use Rattle.reference.proofs.Ready.{Own, own, Ready, set_at, referred_sound, referred_sized}

-- finding a page in a sound pool
module _ (p : Pool) (s : Sound p) where
  abbrev f : ℕ → Frame
  f j = frame_at p.frames j

  -- what is found is the only frame with that page
  pub find_only : (page i j : ℕ) → find_page p.frames page ≡ Some i → j < 128 → has p.frames page j ≡ true → j ≡ i
  unfolding find_page
  find_only page i j e l h =
      let w = least_sound (has p.frames page) never 128 i e in
      let a = (and-eq-true_iff (f i).used (eqb (f i).page page)).0 w.1 in
      let b = (and-eq-true_iff (f j).used (eqb (f j).page page)).0 h in
      let same : (f j).page ≡ (f i).page = eqb-true (f j).page page b.1 ∙ sym (eqb-true (f i).page page a.1) in
      elim (dec_lt j i) [
        | yes q ↦ absurd ((s.frame i w.0).pages a.0 j q same)
        | no q ↦ elim (dec_lt i j) [ yes t ↦ absurd ((s.frame j l).pages b.0 i t (sym same)) | no t ↦ omega arith ]
      ]

  pub find_used : (page i : ℕ) → find_page p.frames page ≡ Some i → (i < 128) × ((f i).used ≡ true) × ((f i).page ≡ page)
  unfolding find_page
  find_used page i e =
      let w = least_sound (has p.frames page) never 128 i e in
      let a = (and-eq-true_iff (f i).used (eqb (f i).page page)).0 w.1 in
      (w.0, a.0, eqb-true (f i).page page a.1)

  -- a page that is not found is in no frame in use
  pub find_absent : (page j : ℕ) → find_page p.frames page ≡ None → j < 128 → (f j).used ≡ true → (f j).page ≡ page → ⊥
  unfolding find_page
  find_absent page j e l u q = false≢true (sym (least_none (has p.frames page) never 128 j e l) ∙ rw (u, eq-eqb (f j).page page q))

  -- a frame in use of a sound pool is ready to be referred to
  pub ready_of : (i : ℕ) → Sized p → p.k < reference_limit → i < 128 → (f i).used ≡ true → Ready p i
  ready_of i z room l u =
      let g = s.frame i l in record {
        sized = z;
        settings = s.settings;
        hand = s.hand;
        room = room;
        frame = l;
        used = u;
        within = g.within u;
        capped = g.capped;
        access = logged_up p.access (i * 8) 8 (f i).accesses (last_epoch_of p i) (now_of p) (last_before_now p s i l u) g.access;
        write = logged_up p.write (i * 4) 4 (f i).writes (last_epoch_of p i) (now_of p) (last_before_now p s i l u) g.write;
        written = g.written;
        others = λ j h _. own p j (s.frame j h);
        lowest = λ j m h k v. (s.frame j k).lowest v m h;
        pages = λ j m h k v. (s.frame j k).pages v m h;
        lasts = λ j m h k _ _ v. (s.frame j k).lasts v m h;
      }

-- with no unused frame below f, each is in use
pub none_unused : (p : Pool) → lowest_unused p ≡ None → (i : ℕ) → i < p.settings.frames → (frame_at p.frames i).used ≡ true
unfolding lowest_unused
none_unused p h i l = undenied (frame_at p.frames i).used (least_none (unused p.frames) never p.settings.frames i h l)

-- a change of one frame that touches no page, last step or log
module _ (p : Pool) (s : Sound p) (z : Sized p) (i : ℕ) (l : i < 128) (g : Frame) (a : Alike p.settings.cap (frame_at p.frames i) g) where
  pub frame_quiet : Quiet p (with_frame p i g)
  frame_quiet = record {
    settings = refl;
    k = refl;
    access = refl;
    write = refl;
    hand = s.hand;
    frame = λ j h. set_at p.frames i j g (Alike p.settings.cap (frame_at p.frames j)) (rw z.frames l)
        (λ e. subst (λ (x : ℕ). Alike p.settings.cap (frame_at p.frames x) g) (sym e) a)
        (λ _. record { used = refl; page = refl; last = refl; accesses = refl; writes = refl; dirty = λ d. d; count = (s.frame j h).capped; still = λ _. refl });
  }

  pub frame_sound_lem : Sound (with_frame p i g)
  frame_sound_lem = sound_quiet p (with_frame p i g) s frame_quiet

  pub frame_sized : Sized (with_frame p i g)
  frame_sized = record { frames = length-set p.frames i g ∙ z.frames; access = z.access; write = z.write }

  frame_used : (frame_at (with_frame p i g).frames i).used ≡ (frame_at p.frames i).used
  frame_used = ap (λ (h : Frame). h.used) (get_or-set_same p.frames i g empty_frame (rw z.frames l)) ∙ a.used

module _ (p : Pool) (s : Sound p) (z : Sized p) (i : ℕ) (l : i < 128) (u : (frame_at p.frames i).used ≡ true) where
  -- pin and unpin of a frame in use
  repinned : (n : ℕ) → Alike p.settings.cap (frame_at p.frames i) (with_pins (frame_at p.frames i) n)
  repinned n = record { used = refl; page = refl; last = refl; accesses = refl; writes = refl; dirty = λ d. d; count = (s.frame i l).capped; still = λ o. absurd (true≢false (sym u ∙ o)) }

  pub pin_sound : Sound (pinned_at p i)
  unfolding pinned_at
  pin_sound = frame_sound_lem p s z i l (with_pins (frame_at p.frames i) ((frame_at p.frames i).pins + 1)) (repinned ((frame_at p.frames i).pins + 1))

  pub unpin_sound : Sound (unpinned_at p i)
  unfolding unpinned_at
  unpin_sound = frame_sound_lem p s z i l (with_pins (frame_at p.frames i) ((frame_at p.frames i).pins - 1)) (repinned ((frame_at p.frames i).pins - 1))

  -- a hit
  abbrev count : ℕ
  count = raised p.settings.cap (frame_at p.frames i).count

  risen : Alike p.settings.cap (frame_at p.frames i) (with_count (frame_at p.frames i) count)
  risen = record { used = refl; page = refl; last = refl; accesses = refl; writes = refl; dirty = λ d. d; count = omega arith; still = λ o. absurd (true≢false (sym u ∙ o)) }

  abbrev q : Pool
  q = with_frame p i (with_count (frame_at p.frames i) count)

  hit_ready : p.k < reference_limit → Ready q i
  hit_ready room =
      ready_of q (frame_sound_lem p s z i l (with_count (frame_at p.frames i) count) risen) i (frame_sized p s z i l (with_count (frame_at p.frames i) count) risen) room l
      (frame_used p s z i l (with_count (frame_at p.frames i) count) risen ∙ u)

  pub hit_sound : (write : Bool) → p.k < reference_limit → Sound (hit_at p i write)
  unfolding hit_at
  hit_sound write room = referred_sound q i write (hit_ready room)

  pub hit_sized : (write : Bool) → p.k < reference_limit → Sized (hit_at p i write)
  unfolding hit_at
  hit_sized write room = referred_sized q i write (hit_ready room)

-- a fetch of an absent page into a frame below f, all frames before it in use
module _ (p : Pool) (s : Sound p) (z : Sized p) (i page : ℕ) (l : i < p.settings.frames) (under : (j : ℕ) → j < i → (frame_at p.frames j).used ≡ true)
    (absent : (j : ℕ) → j < 128 → (frame_at p.frames j).used ≡ true → (frame_at p.frames j).page ≡ page → ⊥) where
  abbrev e : Pool
  e = emptied p i page

  few : i < 128
  few = let h = (ranges p.settings s.settings).frames.1 in omega arith

  now_at_lem : (j : ℕ) (P : Frame → Type 0) → (j ≡ i → P (new_frame page)) → ((j ≡ i → ⊥) → P (frame_at p.frames j)) → P (frame_at e.frames j)
  now_at_lem j P same other = set_at p.frames i j (new_frame page) P (rw z.frames few) same other

  new : frame_at e.frames i ≡ new_frame page
  new = get_or-set_same p.frames i (new_frame page) empty_frame (rw z.frames few)

  old : (j : ℕ) → (j ≡ i → ⊥) → frame_at e.frames j ≡ frame_at p.frames j
  old j ne = get_or-set_other p.frames i j (new_frame page) empty_frame ne

  old_epoch : (j : ℕ) → (j ≡ i → ⊥) → last_epoch_of p j ≡ last_epoch_of e j
  unfolding last_epoch_of
  old_epoch j ne = rw (old j ne)

  old_own : (j : ℕ) → j < 128 → (j ≡ i → ⊥) → Own e j
  old_own j h ne =
      let g = s.frame j h in record {
        within = λ u. g.within (rw (old j ne) at u);
        zero = λ u. old j ne ∙ g.zero (rw (old j ne) at u);
        capped = rw (old j ne) g.capped;
        below = λ u. rw (old j ne) (g.below (rw (old j ne) at u));
        access = rw (old j ne, ← old_epoch j ne)
            (logged_same p.access e.access (j * 8) 8 (frame_at p.frames j).accesses (last_epoch_of p j) (clear_other p.access 8 i j ne (access_room_lem p i z few)) g.access);
        write = rw (old j ne, ← old_epoch j ne)
            (logged_same p.write e.write (j * 4) 4 (frame_at p.frames j).writes (last_epoch_of p j) (clear_other p.write 4 i j ne (write_room_lem p i z few)) g.write);
        accessed = λ u. rw (old j ne) (g.accessed (rw (old j ne) at u));
        written = λ d. rw (old j ne) (g.written (rw (old j ne) at d));
      }

  emptied_lowest : (j m : ℕ) → m < j → j < 128 → (frame_at e.frames j).used ≡ true → (frame_at e.frames m).used ≡ true
  emptied_lowest j m h k =
      now_at_lem m (λ (g : Frame). (frame_at e.frames j).used ≡ true → g.used ≡ true) (λ _ _. refl)
      (λ ne. now_at_lem j (λ (g : Frame). g.used ≡ true → (frame_at p.frames m).used ≡ true) (λ q _. under m (omega arith)) (λ _ u. (s.frame j k).lowest u m h))

  emptied_pages : (j m : ℕ) → m < j → j < 128 → (frame_at e.frames j).used ≡ true → (frame_at e.frames m).page ≡ (frame_at e.frames j).page → ⊥
  emptied_pages j m h k =
      now_at_lem m (λ (g : Frame). (frame_at e.frames j).used ≡ true → g.page ≡ (frame_at e.frames j).page → ⊥)
      (λ q. now_at_lem j (λ (g : Frame). g.used ≡ true → page ≡ g.page → ⊥) (λ r _ _. absurd (omega arith)) (λ _ u x. absent j k u (sym x)))
      (λ ne. now_at_lem j (λ (g : Frame). g.used ≡ true → (frame_at p.frames m).page ≡ g.page → ⊥)
      (λ q _. absent m (omega arith) (under m (omega arith)))
      (λ _ u. (s.frame j k).pages u m h))

  fetch_ready : p.k < reference_limit → Ready e i
  fetch_ready room = record {
    sized = record {
      frames = length-set p.frames i (new_frame page) ∙ z.frames;
      access = clear_length p.access (i * 8) 8 (access_room_lem p i z few) ∙ z.access;
      write = clear_length p.write (i * 4) 4 (write_room_lem p i z few) ∙ z.write;
    };
    settings = s.settings;
    hand = s.hand;
    room = room;
    frame = few;
    used = ap (λ (g : Frame). g.used) new;
    within = l;
    capped = rw new (ranges p.settings s.settings).cap.0;
    access = rw new (clear_logged p.access (i * 8) 8 (now_of e) (access_room_lem p i z few));
    write = rw new (clear_logged p.write (i * 4) 4 (now_of e) (write_room_lem p i z few));
    written = λ d. absurd (true≢false (sym d ∙ ap (λ (g : Frame). g.dirty) new));
    others = old_own;
    lowest = emptied_lowest;
    pages = emptied_pages;
    lasts = λ j m h k a b u x. (s.frame j k).lasts (rw (old j a) at u) m h (ap (λ (g : Frame). g.last) (sym (old m b)) ∙ x ∙ ap (λ (g : Frame). g.last) (old j a));
  }

  pub fetch_sound : (write : Bool) → p.k < reference_limit → Sound (fetched_at p i page write)
  unfolding fetched_at
  fetch_sound write room = referred_sound e i write (fetch_ready room)

  pub fetch_sized : (write : Bool) → p.k < reference_limit → Sized (fetched_at p i page write)
  unfolding fetched_at
  fetch_sized write room = referred_sized e i write (fetch_ready room)

-- into the lowest unused frame, and into the frame of a victim where none is unused
module _ (p : Pool) (s : Sound p) (z : Sized p) (page : ℕ) (miss : find_page p.frames page ≡ None) (room : p.k < reference_limit) where
  module _ (i : ℕ) (write : Bool) (h : lowest_unused p ≡ Some i) where
    within : i < p.settings.frames
    unfolding lowest_unused
    within = (least_sound (unused p.frames) never p.settings.frames i h).0

    under : (j : ℕ) → j < i → (frame_at p.frames j).used ≡ true
    unfolding lowest_unused
    under j l = undenied (frame_at p.frames j).used (first_lowest (unused p.frames) p.settings.frames i j h l)

    pub unused_sound : Sound (fetched_at p i page write)
    unused_sound = fetch_sound p s z i page within under (λ j. find_absent p s page j miss) write room

    pub unused_sized : Sized (fetched_at p i page write)
    unused_sized = fetch_sized p s z i page within under (λ j. find_absent p s page j miss) write room

  module _ (i : ℕ) (write : Bool) (h : lowest_unused p ≡ None) (l : i < p.settings.frames) where
    pub victim_sound : Sound (fetched_at p i page write)
    victim_sound = fetch_sound p s z i page l (λ j k. none_unused p h j (omega arith)) (λ j. find_absent p s page j miss) write room

    pub victim_sized : Sized (fetched_at p i page write)
    victim_sized = fetch_sized p s z i page l (λ j k. none_unused p h j (omega arith)) (λ j. find_absent p s page j miss) write room

-- a quiet change moves no page
module _ (p q : Pool) (s : Sound p) (c : Quiet p q) where
  pub quiet_find : (page : ℕ) → find_page q.frames page ≡ find_page p.frames page
  unfolding find_page
  quiet_find page = least_cong (has q.frames page) (has p.frames page) never never 128 (λ j l. rw ((c.frame j l).used, (c.frame j l).page)) (λ i j l k. refl)

  pub quiet_unused : lowest_unused q ≡ lowest_unused p
  unfolding lowest_unused
  quiet_unused =
      let few = (ranges p.settings s.settings).frames.1 in
      ap (λ (n : Settings). least_below (unused q.frames) never n.frames) c.settings
      ∙ least_cong (unused q.frames) (unused p.frames) never never p.settings.frames (λ j l. rw (c.frame j (omega arith)).used) (λ i j l k. refl)

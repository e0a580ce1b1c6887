-- Soundness as facts: what a sound pool tells of each frame, and that those facts make it sound.
use mathlib.Core.Path.{◌≡◌, refl, ap, sym, ◌∙◌}
use mathlib.Core.Bool.{Bool, true, false, ◌&&◌, ◌||◌, not, true≢false, and-eq-true_iff}
use mathlib.Core.List.{List}
use Prim.Native.Nat.{ℕ, zero, suc, ◌+◌, ◌-◌, ◌*◌, ◌≤◌, ◌<◌}
use native.Mathlib.Omega.{arith}
use lib.ListN.{get_or}
use lib.Dec.{eqb, ltb, leb}
use borrow.Author.Tests.{eq-eqb, ne_eqb, eqb-true, lt-ltb, le-ltb, ltb-true, ltb-false, le-leb, leb-true}
use Rattle.search.specs.Search.{every_below}
use Rattle.search.proofs.Every.{pick_ind, denied, every_at, every_of}
use Rattle.settings.specs.Settings.{in_range}
use Rattle.pool.specs.declared.Frame.{Frame}
use Rattle.pool.specs.declared.Pool.{Pool}
use Rattle.pool.specs.Sound.{whenever, holds_page, last_at, zero_frame, place_at, sound_log, lowest, within_frames, distinct_page, unused_zero, count_capped, last_below, distinct_last, access_log_sound, write_log_sound, logs_nonempty, each, sound_pool}
use Rattle.limit.specs.Limits.{reference_limit}
use Rattle.pool.specs.Pool.{empty_frame, frame_at, last_epoch_of}

-- what two tests tell together, and one behind another
pub both : (a b : Bool) → (a && b) ≡ true → (a ≡ true) × (b ≡ true)
both a b h = (and-eq-true_iff a b).0 h

pub and_of : (a b : Bool) → a ≡ true → b ≡ true → (a && b) ≡ true
and_of a b h k = rw (h, k)

pub then : (a b : Bool) → whenever a b ≡ true → a ≡ true → b ≡ true
then true b h e = h
then false b h e = absurd (true≢false (sym e))

pub whenever_of : (a b : Bool) → (a ≡ true → b ≡ true) → whenever a b ≡ true
whenever_of true b f = f refl
whenever_of false b f = refl

-- a log's facts
pub record Logged (a : List ℕ) (at room n epoch : ℕ) : Type 0 where
  pub short : n ≤ room
  pub falls : (j : ℕ) → suc j < n → get_or a (at + suc j) 0 < get_or a (at + j) 0
  pub high : (j : ℕ) → j < n → get_or a (at + j) 0 ≤ epoch
  pub rest : (j : ℕ) → n ≤ j → j < room → get_or a (at + j) 0 ≡ 0

-- what soundness tells of frame i
pub record SoundFrame (p : Pool) (i : ℕ) : Type 0 where
  pub lowest : (frame_at p.frames i).used ≡ true → (j : ℕ) → j < i → (frame_at p.frames j).used ≡ true
  pub within : (frame_at p.frames i).used ≡ true → i < p.settings.frames
  pub pages : (frame_at p.frames i).used ≡ true → (j : ℕ) → j < i → (frame_at p.frames j).page ≡ (frame_at p.frames i).page → ⊥
  pub zero : (frame_at p.frames i).used ≡ false → frame_at p.frames i ≡ empty_frame
  pub capped : (frame_at p.frames i).count ≤ p.settings.cap
  pub below : (frame_at p.frames i).used ≡ true → (frame_at p.frames i).last < p.k
  pub lasts : (frame_at p.frames i).used ≡ true → (j : ℕ) → j < i → (frame_at p.frames j).last ≡ (frame_at p.frames i).last → ⊥
  pub access : Logged p.access (i * 8) 8 (frame_at p.frames i).accesses (last_epoch_of p i)
  pub write : Logged p.write (i * 4) 4 (frame_at p.frames i).writes (last_epoch_of p i)
  pub accessed : (frame_at p.frames i).used ≡ true → 0 < (frame_at p.frames i).accesses
  pub written : (frame_at p.frames i).dirty ≡ true → 0 < (frame_at p.frames i).writes

pub record Sound (p : Pool) : Type 0 where
  pub settings : in_range p.settings ≡ true
  pub hand : p.hand < p.settings.frames
  pub few : p.k ≤ reference_limit
  pub frame : (i : ℕ) → i < 128 → SoundFrame p i

-- what is dirty is in use
pub dirty_used : (p : Pool) → Sound p → (i : ℕ) → i < 128 → (frame_at p.frames i).dirty ≡ true → (frame_at p.frames i).used ≡ true
dirty_used p s i l d = go (frame_at p.frames i).used refl
  where
    go : (u : Bool) → (frame_at p.frames i).used ≡ u → u ≡ true
    go true e = refl
    go false e = sym (ap (λ (fr : Frame). fr.dirty) ((s.frame i l).zero e)) ∙ d

-- two numbers apart, where both are asked for
pub apart : (u : Bool) (x y : ℕ) → not (u && eqb x y) ≡ true → u ≡ true → x ≡ y → ⊥
apart true x y h e q = true≢false (sym (rw (eq-eqb x y q) at h))
apart false x y h e q = true≢false (sym e)

apart_of : (u : Bool) (x y : ℕ) → (x ≡ y → ⊥) → not (u && eqb x y) ≡ true
apart_of true x y f = rw (ne_eqb x y f)
apart_of false x y f = refl

-- a frame that is all zero is the empty one
pub zero_empty : (fr : Frame) → zero_frame fr ≡ true → fr ≡ empty_frame
zero_empty fr h =
    let s8 = eqb fr.writes 0 in
    let s7 = eqb fr.accesses 0 && s8 in
    let s6 = eqb fr.last 0 && s7 in
    let s5 = eqb fr.count 0 && s6 in
    let s4 = eqb fr.pins 0 && s5 in
    let s3 = not fr.dirty && s4 in
    let s2 = eqb fr.page 0 && s3 in
    let h1 = both (not fr.used) s2 h in
    let h2 = both (eqb fr.page 0) s3 h1.1 in
    let h3 = both (not fr.dirty) s4 h2.1 in
    let h4 = both (eqb fr.pins 0) s5 h3.1 in
    let h5 = both (eqb fr.count 0) s6 h4.1 in
    let h6 = both (eqb fr.last 0) s7 h5.1 in
    let h7 = both (eqb fr.accesses 0) s8 h6.1 in
    rw (
      denied fr.used h1.0,
      eqb-true fr.page 0 h2.0,
      denied fr.dirty h3.0,
      eqb-true fr.pins 0 h4.0,
      eqb-true fr.count 0 h5.0,
      eqb-true fr.last 0 h6.0,
      eqb-true fr.accesses 0 h7.0,
      eqb-true fr.writes 0 h7.1,
    )

-- a sound log's facts, and a log with those facts is sound
module _ (a : List ℕ) (at room n epoch : ℕ) where
  log_place : sound_log a at room n epoch ≡ true → (n ≤ room) × ((j : ℕ) → j < room → place_at a at n epoch j ≡ true)
  unfolding sound_log
  log_place h =
      let b = both (leb n room) (every_below (place_at a at n epoch) room) h in
      (leb-true n room b.0, λ j l. every_at (place_at a at n epoch) room j b.1 l)

  in_log : (j : ℕ) → place_at a at n epoch j ≡ true → j < n → ((eqb j 0 || ltb (get_or a (at + j) 0) (get_or a (at + (j - 1)) 0)) ≡ true) × (get_or a (at + j) 0 ≤ epoch)
  in_log j h l =
      let b = both (eqb j 0 || ltb (get_or a (at + j) 0) (get_or a (at + (j - 1)) 0)) (leb (get_or a (at + j) 0) epoch) (rw (lt-ltb j n l) at h) in
      (b.0, leb-true (get_or a (at + j) 0) epoch b.1)

  after_newer : (j : ℕ) → (eqb (suc j) 0 || ltb (get_or a (at + suc j) 0) (get_or a (at + (suc j - 1)) 0)) ≡ true → get_or a (at + suc j) 0 < get_or a (at + j) 0
  after_newer j h =
      let e : suc j - 1 ≡ j = omega arith in
      ltb-true (get_or a (at + suc j) 0) (get_or a (at + j) 0) (rw (ne_eqb (suc j) 0 (λ q. absurd (omega arith)), e) at h)

  pub log_told : sound_log a at room n epoch ≡ true → Logged a at room n epoch
  log_told h =
      let b = log_place h in
      let short = b.0 in record {
        short = short;
        falls = λ j l. after_newer j (in_log (suc j) (b.1 (suc j) (omega arith)) l).0;
        high = λ j l. (in_log j (b.1 j (omega arith)) l).1;
        rest = λ j l m. eqb-true (get_or a (at + j) 0) 0 (rw (le-ltb j n l) at (b.1 j m));
      }

  newer_of : Logged a at room n epoch → (j : ℕ) → j < n → (eqb j 0 || ltb (get_or a (at + j) 0) (get_or a (at + (j - 1)) 0)) ≡ true
  newer_of g zero l = refl
  newer_of g (suc j) l =
      let e : suc j - 1 ≡ j = omega arith in
      rw (ne_eqb (suc j) 0 (λ q. absurd (omega arith)), e) (lt-ltb (get_or a (at + suc j) 0) (get_or a (at + j) 0) (g.falls j l))

  place_of : Logged a at room n epoch → (j : ℕ) → j < room → place_at a at n epoch j ≡ true
  place_of g j l =
      pick_ind (λ (b : Bool). b ≡ true) (ltb j n) ((eqb j 0 || ltb (get_or a (at + j) 0) (get_or a (at + (j - 1)) 0)) && leb (get_or a (at + j) 0) epoch) (eqb (get_or a (at + j) 0) 0)
      (λ t. let i = ltb-true j n t in rw (newer_of g j i) (le-leb (get_or a (at + j) 0) epoch (g.high j i)))
      (λ t. eq-eqb (get_or a (at + j) 0) 0 (g.rest j (ltb-false j n t) l))

  pub log_made : Logged a at room n epoch → sound_log a at room n epoch ≡ true
  unfolding sound_log
  log_made g = and_of (leb n room) (every_below (place_at a at n epoch) room) (le-leb n room g.short) (every_of (place_at a at n epoch) room (place_of g))

pub or_right : (a b : Bool) → (a || b) ≡ true → a ≡ false → b ≡ true
or_right true b h e = absurd (true≢false e)
or_right false b h e = h

module _ (p : Pool) (i : ℕ) where
  abbrev f : ℕ → Frame
  f j = frame_at p.frames j

  abbrev used_before : ℕ → Bool
  used_before j = (f j).used

  abbrev other_page : ℕ → Bool
  other_page j = not (holds_page (f i).page (f j))

  abbrev other_last : ℕ → Bool
  other_last j = not (last_at (f i).last (f j))

  -- a frame's facts, from the clauses of `sound_pool`
  pub frame_told : lowest p i ≡ true → within_frames p i ≡ true → distinct_page p i ≡ true → unused_zero p i ≡ true → count_capped p i ≡ true → last_below p i ≡ true → distinct_last p i ≡ true
      → access_log_sound p i ≡ true → write_log_sound p i ≡ true → logs_nonempty p i ≡ true → SoundFrame p i
  frame_told low few dp uz cap lb dl al wl ne =
      let in_use : (f i).used ≡ true → (j : ℕ) → j < i → (f j).used ≡ true = λ e j l. every_at used_before i j (then (f i).used (every_below used_before i) low e) l in
      let some = both (whenever (f i).used (ltb 0 (f i).accesses)) (whenever (f i).dirty (ltb 0 (f i).writes)) ne in record {
        lowest = in_use;
        within = λ e. ltb-true i p.settings.frames (then (f i).used (ltb i p.settings.frames) few e);
        pages = λ e j l. apart (f j).used (f j).page (f i).page (every_at other_page i j (then (f i).used (every_below other_page i) dp e) l) (in_use e j l);
        zero = λ e. zero_empty (f i) (or_right (f i).used (zero_frame (f i)) uz e);
        capped = leb-true (f i).count p.settings.cap cap;
        below = λ e. ltb-true (f i).last p.k (then (f i).used (ltb (f i).last p.k) lb e);
        lasts = λ e j l. apart (f j).used (f j).last (f i).last (every_at other_last i j (then (f i).used (every_below other_last i) dl e) l) (in_use e j l);
        access = log_told p.access (i * 8) 8 (f i).accesses (last_epoch_of p i) al;
        write = log_told p.write (i * 4) 4 (f i).writes (last_epoch_of p i) wl;
        accessed = λ e. ltb-true 0 (f i).accesses (then (f i).used (ltb 0 (f i).accesses) some.0 e);
        written = λ e. ltb-true 0 (f i).writes (then (f i).dirty (ltb 0 (f i).writes) some.1 e);
      }

  -- and each clause from the facts
  module _ (s : SoundFrame p i) where
    lowest_of : lowest p i ≡ true
    lowest_of = whenever_of (f i).used (every_below used_before i) (λ e. every_of used_before i (s.lowest e))

    within_of : within_frames p i ≡ true
    within_of = whenever_of (f i).used (ltb i p.settings.frames) (λ e. lt-ltb i p.settings.frames (s.within e))

    page_of_lem : distinct_page p i ≡ true
    page_of_lem = whenever_of (f i).used (every_below other_page i) (λ e. every_of other_page i (λ j l. apart_of (f j).used (f j).page (f i).page (s.pages e j l)))

    zero_of : unused_zero p i ≡ true
    zero_of = go (f i).used refl
      where
        go : (t : Bool) → (f i).used ≡ t → (t || zero_frame (f i)) ≡ true
        go true e = refl
        go false e = ap zero_frame (s.zero e)

    pub capped_of : count_capped p i ≡ true
    capped_of = le-leb (f i).count p.settings.cap s.capped

    below_of : last_below p i ≡ true
    below_of = whenever_of (f i).used (ltb (f i).last p.k) (λ e. lt-ltb (f i).last p.k (s.below e))

    last_of : distinct_last p i ≡ true
    last_of = whenever_of (f i).used (every_below other_last i) (λ e. every_of other_last i (λ j l. apart_of (f j).used (f j).last (f i).last (s.lasts e j l)))

    pub access_of_lem : access_log_sound p i ≡ true
    access_of_lem = log_made p.access (i * 8) 8 (f i).accesses (last_epoch_of p i) s.access

    pub write_of_lem : write_log_sound p i ≡ true
    write_of_lem = log_made p.write (i * 4) 4 (f i).writes (last_epoch_of p i) s.write

    nonempty_of : logs_nonempty p i ≡ true
    nonempty_of =
        and_of (whenever (f i).used (ltb 0 (f i).accesses)) (whenever (f i).dirty (ltb 0 (f i).writes))
        (whenever_of (f i).used (ltb 0 (f i).accesses) (λ e. lt-ltb 0 (f i).accesses (s.accessed e)))
        (whenever_of (f i).dirty (ltb 0 (f i).writes) (λ e. lt-ltb 0 (f i).writes (s.written e)))

-- a sound pool's facts
pub told : (p : Pool) → sound_pool p ≡ true → Sound p
unfolding sound_pool
told p h =
    let c12 = each (logs_nonempty p) in
    let c11 = each (write_log_sound p) && c12 in
    let c10 = each (access_log_sound p) && c11 in
    let c9 = each (distinct_last p) && c10 in
    let c8 = each (last_below p) && c9 in
    let c7 = each (count_capped p) && c8 in
    let c6 = leb p.k reference_limit && c7 in
    let c5 = ltb p.hand p.settings.frames && c6 in
    let c4 = each (unused_zero p) && c5 in
    let c3 = each (distinct_page p) && c4 in
    let c2 = each (within_frames p) && c3 in
    let c1 = each (lowest p) && c2 in
    let h0 = both (in_range p.settings) c1 h in
    let h1 = both (each (lowest p)) c2 h0.1 in
    let h2 = both (each (within_frames p)) c3 h1.1 in
    let h3 = both (each (distinct_page p)) c4 h2.1 in
    let h4 = both (each (unused_zero p)) c5 h3.1 in
    let h5 = both (ltb p.hand p.settings.frames) c6 h4.1 in
    let h6 = both (leb p.k reference_limit) c7 h5.1 in
    let h7 = both (each (count_capped p)) c8 h6.1 in
    let h8 = both (each (last_below p)) c9 h7.1 in
    let h9 = both (each (distinct_last p)) c10 h8.1 in
    let h10 = both (each (access_log_sound p)) c11 h9.1 in
    let h11 = both (each (write_log_sound p)) c12 h10.1 in record {
      settings = h0.0;
      hand = ltb-true p.hand p.settings.frames h5.0;
      few = leb-true p.k reference_limit h6.0;
      frame = λ i l. frame_told p i
          (every_at (lowest p) 128 i h1.0 l)
          (every_at (within_frames p) 128 i h2.0 l)
          (every_at (distinct_page p) 128 i h3.0 l)
          (every_at (unused_zero p) 128 i h4.0 l)
          (every_at (count_capped p) 128 i h7.0 l)
          (every_at (last_below p) 128 i h8.0 l)
          (every_at (distinct_last p) 128 i h9.0 l)
          (every_at (access_log_sound p) 128 i h10.0 l)
          (every_at (write_log_sound p) 128 i h11.0 l)
          (every_at (logs_nonempty p) 128 i h11.1 l);
    }

-- a pool with those facts is sound
pub made : (p : Pool) → Sound p → sound_pool p ≡ true
unfolding sound_pool
made p s =
    rw (
      s.settings,
      every_of (lowest p) 128 (λ i l. lowest_of p i (s.frame i l)),
      every_of (within_frames p) 128 (λ i l. within_of p i (s.frame i l)),
      every_of (distinct_page p) 128 (λ i l. page_of_lem p i (s.frame i l)),
      every_of (unused_zero p) 128 (λ i l. zero_of p i (s.frame i l)),
      lt-ltb p.hand p.settings.frames s.hand,
      le-leb p.k reference_limit s.few,
      every_of (count_capped p) 128 (λ i l. capped_of p i (s.frame i l)),
      every_of (last_below p) 128 (λ i l. below_of p i (s.frame i l)),
      every_of (distinct_last p) 128 (λ i l. last_of p i (s.frame i l)),
      every_of (access_log_sound p) 128 (λ i l. access_of_lem p i (s.frame i l)),
      every_of (write_log_sound p) 128 (λ i l. write_of_lem p i (s.frame i l)),
      every_of (logs_nonempty p) 128 (λ i l. nonempty_of p i (s.frame i l)),
    )

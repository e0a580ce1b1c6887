-- A pool whose frame i is ready for the bookkeeping of a reference: sound but for frame i's last step and empty logs.
use mathlib.Core.Path.{◌≡◌, refl, ap, sym, subst, ◌∙◌}
use mathlib.Core.Bool.{Bool, true, false, ◌||◌, true≢false}
use mathlib.Core.List.{List}
use Prim.Native.Nat.{ℕ, ◌*◌, ◌≤◌, ◌<◌}
use native.Mathlib.Omega.{arith}
use native.Mathlib.Decide.{ℕ_discrete}
use lib.ListN.{length, set, length-set}
use lib.Seq.{get_or-set_same, get_or-set_other}
use Rattle.settings.specs.Settings.{in_range}
use Rattle.pool.specs.declared.Frame.{Frame}
use Rattle.pool.specs.declared.Pool.{Pool}
use Rattle.limit.specs.Limits.{reference_limit}
use Rattle.pool.specs.Pool.{empty_frame, frame_at, epoch_at, now_of, last_epoch_of}
use Rattle.pool.proofs.Sound.{Logged, SoundFrame, Sound}
use Rattle.pool.proofs.Sizes.{Sized, access_room_lem, write_room_lem}
use Rattle.reference.specs.Logs.{length_with}
use Rattle.reference.specs.Reference.{referred_frame, referred}
use Rattle.reference.proofs.Logged.{logged_same, with_logged, with_some, with_kept, with_other, with_length}

-- what soundness tells of a frame by itself
pub record Own (p : Pool) (j : ℕ) : Type 0 where
  pub within : (frame_at p.frames j).used ≡ true → j < p.settings.frames
  pub zero : (frame_at p.frames j).used ≡ false → frame_at p.frames j ≡ empty_frame
  pub capped : (frame_at p.frames j).count ≤ p.settings.cap
  pub below : (frame_at p.frames j).used ≡ true → (frame_at p.frames j).last < p.k
  pub access : Logged p.access (j * 8) 8 (frame_at p.frames j).accesses (last_epoch_of p j)
  pub write : Logged p.write (j * 4) 4 (frame_at p.frames j).writes (last_epoch_of p j)
  pub accessed : (frame_at p.frames j).used ≡ true → 0 < (frame_at p.frames j).accesses
  pub written : (frame_at p.frames j).dirty ≡ true → 0 < (frame_at p.frames j).writes

pub own : (p : Pool) (j : ℕ) → SoundFrame p j → Own p j
own p j s = record {
  within = s.within;
  zero = s.zero;
  capped = s.capped;
  below = s.below;
  access = s.access;
  write = s.write;
  accessed = s.accessed;
  written = s.written;
}

pub record Ready (p : Pool) (i : ℕ) : Type 0 where
  pub sized : Sized p
  pub settings : in_range p.settings ≡ true
  pub hand : p.hand < p.settings.frames
  pub room : p.k < reference_limit
  pub frame : i < 128
  pub used : (frame_at p.frames i).used ≡ true
  pub within : i < p.settings.frames
  pub capped : (frame_at p.frames i).count ≤ p.settings.cap
  pub access : Logged p.access (i * 8) 8 (frame_at p.frames i).accesses (now_of p)
  pub write : Logged p.write (i * 4) 4 (frame_at p.frames i).writes (now_of p)
  pub written : (frame_at p.frames i).dirty ≡ true → 0 < (frame_at p.frames i).writes
  pub others : (j : ℕ) → j < 128 → (j ≡ i → ⊥) → Own p j
  pub lowest : (j m : ℕ) → m < j → j < 128 → (frame_at p.frames j).used ≡ true → (frame_at p.frames m).used ≡ true
  pub pages : (j m : ℕ) → m < j → j < 128 → (frame_at p.frames j).used ≡ true → (frame_at p.frames m).page ≡ (frame_at p.frames j).page → ⊥
  pub lasts : (j m : ℕ) → m < j → j < 128 → (j ≡ i → ⊥) → (m ≡ i → ⊥) → (frame_at p.frames j).used ≡ true → (frame_at p.frames m).last ≡ (frame_at p.frames j).last → ⊥

-- frame j after frame i was set
pub set_at : (fs : List Frame) (i j : ℕ) (g : Frame) (P : Frame → Type 0) → i < length fs → (j ≡ i → P g) → ((j ≡ i → ⊥) → P (frame_at fs j)) → P (frame_at (set fs i g) j)
set_at fs i j g P l same other = elim (ℕ_discrete j i) [
  | yes q ↦ subst (λ (x : ℕ). P (frame_at (set fs i g) x)) (sym q) (subst P (sym (get_or-set_same fs i g empty_frame l)) (same q))
  | no q ↦ subst P (sym (get_or-set_other fs i j g empty_frame q)) (other q)
]

module _ (p : Pool) (i : ℕ) (write : Bool) (s : Ready p i) where
  abbrev r : Pool
  r = referred p i write

  abbrev f : ℕ → Frame
  f j = frame_at p.frames j

  inside : i < length p.frames
  inside = rw s.sized.frames s.frame

  at : (j : ℕ) (P : Frame → Type 0) → (j ≡ i → P (referred_frame p i write)) → ((j ≡ i → ⊥) → P (f j)) → P (frame_at r.frames j)
  unfolding referred
  at j P same other = set_at p.frames i j (referred_frame p i write) P inside same other

  -- pages and use are as they were
  used_same : (j : ℕ) → (frame_at r.frames j).used ≡ (f j).used
  used_same j = at j (λ (g : Frame). g.used ≡ (f j).used) (λ q. ap (λ (x : ℕ). (f x).used) (sym q)) (λ _. refl)

  page_same : (j : ℕ) → (frame_at r.frames j).page ≡ (f j).page
  page_same j = at j (λ (g : Frame). g.page ≡ (f j).page) (λ q. ap (λ (x : ℕ). (f x).page) (sym q)) (λ _. refl)

  was : (j : ℕ) → (frame_at r.frames j).used ≡ true → (f j).used ≡ true
  was j u = sym (used_same j) ∙ u

  settings_same : r.settings ≡ p.settings
  unfolding referred
  settings_same = refl

  here_epoch : now_of p ≡ last_epoch_of r i
  unfolding referred now_of last_epoch_of
  here_epoch = ap (λ (g : Frame). epoch_at p.settings g.last) (sym (get_or-set_same p.frames i (referred_frame p i write) empty_frame inside))

  there : (j : ℕ) → (j ≡ i → ⊥) → frame_at r.frames j ≡ f j
  there j ne = at j (λ (g : Frame). g ≡ f j) (λ q. absurd (ne q)) (λ _. refl)

  here : frame_at r.frames i ≡ referred_frame p i write
  here = at i (λ (g : Frame). g ≡ referred_frame p i write) (λ _. refl) (λ ne. absurd (ne refl))

  there_epoch : (j : ℕ) → (j ≡ i → ⊥) → last_epoch_of p j ≡ last_epoch_of r j
  unfolding last_epoch_of
  there_epoch j ne = rw (there j ne, settings_same)

  -- the logs of frame i, and of another
  access_here : Logged r.access (i * 8) 8 (frame_at r.frames i).accesses (last_epoch_of r i)
  unfolding referred
  access_here = rw (here, ← here_epoch) (with_logged p.access (i * 8) 8 (f i).accesses (now_of p) true (access_room_lem p i s.sized s.frame) (omega arith) s.access)

  write_here : Logged r.write (i * 4) 4 (frame_at r.frames i).writes (last_epoch_of r i)
  unfolding referred
  write_here = rw (here, ← here_epoch) (with_logged p.write (i * 4) 4 (f i).writes (now_of p) write (write_room_lem p i s.sized s.frame) (omega arith) s.write)

  access_there : (j : ℕ) → j < 128 → (j ≡ i → ⊥) → Logged r.access (j * 8) 8 (frame_at r.frames j).accesses (last_epoch_of r j)
  unfolding referred
  access_there j l ne =
      rw (there j ne, ← there_epoch j ne)
      (logged_same p.access r.access (j * 8) 8 (f j).accesses (last_epoch_of p j) (with_other p.access 8 i j ne (access_room_lem p i s.sized s.frame) (f i).accesses (now_of p) true) (s.others j l ne).access)

  write_there : (j : ℕ) → j < 128 → (j ≡ i → ⊥) → Logged r.write (j * 4) 4 (frame_at r.frames j).writes (last_epoch_of r j)
  unfolding referred
  write_there j l ne =
      rw (there j ne, ← there_epoch j ne)
      (logged_same p.write r.write (j * 4) 4 (f j).writes (last_epoch_of p j) (with_other p.write 4 i j ne (write_room_lem p i s.sized s.frame) (f i).writes (now_of p) write) (s.others j l ne).write)

  written_here : (w : Bool) → ((f i).dirty || w) ≡ true → 0 < length_with p.write (i * 4) 4 (f i).writes (now_of p) w
  written_here true d = with_some p.write (i * 4) 4 (f i).writes (now_of p) (omega arith)
  written_here false d = rw (with_kept p.write (i * 4) 4 (f i).writes (now_of p)) (s.written (or_false (f i).dirty d))
    where
      or_false : (b : Bool) → (b || false) ≡ true → b ≡ true
      or_false true h = refl
      or_false false h = h

  -- last steps stay apart: frame i's is the old k, above every other
  below_there : (j : ℕ) → j < 128 → (j ≡ i → ⊥) → (f j).used ≡ true → (f j).last < p.k
  below_there j l ne u = (s.others j l ne).below u

  lasts_apart : (j m : ℕ) → m < j → j < 128 → (f j).used ≡ true → (frame_at r.frames m).last ≡ (frame_at r.frames j).last → ⊥
  lasts_apart j m l h u =
      at m (λ (g : Frame). g.last ≡ (frame_at r.frames j).last → ⊥)
      (λ q. at j (λ (g : Frame). p.k ≡ g.last → ⊥) (λ e _. absurd (omega arith)) (λ e x. let b = below_there j h e u in absurd (omega arith)))
      (λ ne. at j (λ (g : Frame). (f m).last ≡ g.last → ⊥)
      (λ e x. let b = below_there m (omega arith) ne (s.lowest j m l h u) in absurd (omega arith))
      (λ e. s.lasts j m l h e ne u))

  frame_here : SoundFrame r i
  unfolding referred
  frame_here = record {
    lowest = λ u m l. used_same m ∙ s.lowest i m l s.frame (was i u);
    within = λ _. s.within;
    pages = λ u m l e. s.pages i m l s.frame (was i u) (sym (page_same m) ∙ e ∙ page_same i);
    zero = λ u. absurd (true≢false (sym (used_same i ∙ s.used) ∙ u));
    capped = rw here s.capped;
    below = λ _. rw here (omega arith);
    lasts = λ u m l. lasts_apart i m l s.frame (was i u);
    access = access_here;
    write = write_here;
    accessed = λ _. rw here (with_some p.access (i * 8) 8 (f i).accesses (now_of p) (omega arith));
    written = λ d. rw here (written_here write (rw here at d));
  }

  frame_there : (j : ℕ) → j < 128 → (j ≡ i → ⊥) → SoundFrame r j
  unfolding referred
  frame_there j h ne =
      let o = s.others j h ne in record {
        lowest = λ u m l. used_same m ∙ s.lowest j m l h (was j u);
        within = λ u. o.within (was j u);
        pages = λ u m l e. s.pages j m l h (was j u) (sym (page_same m) ∙ e ∙ page_same j);
        zero = λ u. there j ne ∙ o.zero (sym (used_same j) ∙ u);
        capped = rw (there j ne) o.capped;
        below = λ u. let b = o.below (was j u) in rw (there j ne) (omega arith);
        lasts = λ u m l. lasts_apart j m l h (was j u);
        access = access_there j h ne;
        write = write_there j h ne;
        accessed = λ u. rw (there j ne) (o.accessed (was j u));
        written = λ d. rw (there j ne) (o.written (rw (there j ne) at d));
      }

  -- the bookkeeping of a reference leaves a sound pool
  pub referred_sound : Sound r
  unfolding referred
  referred_sound =
      let room = s.room in record {
        settings = s.settings;
        hand = s.hand;
        few = omega arith;
        frame = λ j l. elim (ℕ_discrete j i) [ yes q ↦ subst (λ (x : ℕ). SoundFrame r x) (sym q) frame_here | no q ↦ frame_there j l q ];
      }

  pub referred_sized : Sized r
  unfolding referred
  referred_sized = record {
    frames = length-set p.frames i (referred_frame p i write) ∙ s.sized.frames;
    access = with_length p.access (i * 8) 8 (f i).accesses (now_of p) true (access_room_lem p i s.sized s.frame) ∙ s.sized.access;
    write = with_length p.write (i * 4) 4 (f i).writes (now_of p) write (write_room_lem p i s.sized s.frame) ∙ s.sized.write;
  }

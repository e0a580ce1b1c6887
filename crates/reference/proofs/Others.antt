-- A reference, a pin and an unpin leave every other frame and its logs as they were.
use mathlib.Core.Path.{◌≡◌, refl, ◌∙◌}
use mathlib.Core.Bool.{Bool, true}
use Prim.Native.Nat.{ℕ, ◌+◌, ◌-◌, ◌*◌, ◌≤◌, ◌<◌}
use lib.ListN.{length, get_or}
use lib.Seq.{get_or-set_other}
use Rattle.pool.specs.declared.Frame.{Frame}
use Rattle.pool.specs.declared.Pool.{Pool}
use Rattle.pool.specs.Pool.{empty_frame, frame_at, now_of, with_count, with_frame, with_pins}
use Rattle.pool.proofs.Sizes.{Sized, access_room_lem, write_room_lem}
use Rattle.reference.specs.Reference.{raised, new_frame, referred_frame, referred, emptied, hit_at, fetched_at, pinned_at, unpinned_at}
use Rattle.reference.proofs.Logs.{clear_length}
use Rattle.reference.proofs.Logged.{with_other, clear_other}

-- frame j's fields and logs are the same
pub record Stays (p q : Pool) (j : ℕ) : Type 0 where
  pub frame : frame_at q.frames j ≡ frame_at p.frames j
  pub access : (k : ℕ) → k < 8 → get_or q.access (j * 8 + k) 0 ≡ get_or p.access (j * 8 + k) 0
  pub write : (k : ℕ) → k < 4 → get_or q.write (j * 4 + k) 0 ≡ get_or p.write (j * 4 + k) 0

then_stays : (p q r : Pool) (j : ℕ) → Stays p q j → Stays q r j → Stays p r j
then_stays p q r j a b = record {
  frame = b.frame ∙ a.frame;
  access = λ k l. b.access k l ∙ a.access k l;
  write = λ k l. b.write k l ∙ a.write k l;
}

module _ (p : Pool) (i j : ℕ) (ne : j ≡ i → ⊥) where
  frame_other : (g : Frame) → Stays p (with_frame p i g) j
  frame_other g = record { frame = get_or-set_other p.frames i j g empty_frame ne; access = λ k l. refl; write = λ k l. refl }

  pub pin_other : Stays p (pinned_at p i) j
  unfolding pinned_at
  pin_other = frame_other (with_pins (frame_at p.frames i) ((frame_at p.frames i).pins + 1))

  pub unpin_other : Stays p (unpinned_at p i) j
  unfolding unpinned_at
  unpin_other = frame_other (with_pins (frame_at p.frames i) ((frame_at p.frames i).pins - 1))

  referred_other : (write : Bool) → i * 8 + 8 ≤ length p.access → i * 4 + 4 ≤ length p.write → Stays p (referred p i write) j
  unfolding referred
  referred_other write a w = record {
    frame = get_or-set_other p.frames i j (referred_frame p i write) empty_frame ne;
    access = with_other p.access 8 i j ne a (frame_at p.frames i).accesses (now_of p) true;
    write = with_other p.write 4 i j ne w (frame_at p.frames i).writes (now_of p) write;
  }

module _ (p : Pool) (z : Sized p) (i j : ℕ) (l : i < 128) (ne : j ≡ i → ⊥) where
  pub hit_other : (write : Bool) → Stays p (hit_at p i write) j
  unfolding hit_at
  hit_other write =
      let g = with_count (frame_at p.frames i) (raised p.settings.cap (frame_at p.frames i).count) in
      then_stays p (with_frame p i g) (referred (with_frame p i g) i write) j (frame_other p i j ne g) (referred_other (with_frame p i g) i j ne write (access_room_lem p i z l) (write_room_lem p i z l))

  emptied_other : (page : ℕ) → Stays p (emptied p i page) j
  emptied_other page = record {
    frame = get_or-set_other p.frames i j (new_frame page) empty_frame ne;
    access = clear_other p.access 8 i j ne (access_room_lem p i z l);
    write = clear_other p.write 4 i j ne (write_room_lem p i z l);
  }

  pub fetch_other : (page : ℕ) (write : Bool) → Stays p (fetched_at p i page write) j
  unfolding fetched_at
  fetch_other page write =
      let a = clear_length p.access (i * 8) 8 (access_room_lem p i z l) in
      let w = clear_length p.write (i * 4) 4 (write_room_lem p i z l) in
      then_stays p (emptied p i page) (referred (emptied p i page) i write) j (emptied_other page)
      (referred_other (emptied p i page) i j ne write (rw a (access_room_lem p i z l)) (rw w (write_room_lem p i z l)))

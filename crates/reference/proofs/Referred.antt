-- The frame that a hit, a fetch, a pin or an unpin is about.
use mathlib.Core.Path.{◌≡◌, ap, ◌∙◌}
use mathlib.Core.Bool.{Bool, true, ◌||◌}
use Prim.Native.Nat.{ℕ, ◌+◌, ◌-◌, ◌<◌}
use lib.ListN.{length-set}
use lib.Seq.{get_or-set_same}
use Rattle.pool.specs.declared.Frame.{Frame}
use Rattle.pool.specs.declared.Pool.{Pool}
use Rattle.pool.specs.Pool.{empty_frame, frame_at, with_count, with_frame, with_pins}
use Rattle.pool.proofs.Sizes.{Sized}
use Rattle.reference.specs.Reference.{raised, new_frame, referred_frame, referred, emptied, hit_at, fetched_at, pinned_at, unpinned_at}

module _ (p : Pool) (z : Sized p) (i : ℕ) (l : i < 128) where
  own : (g : Frame) → frame_at (with_frame p i g).frames i ≡ g
  own g = get_or-set_same p.frames i g empty_frame (rw z.frames l)

  abbrev counted : Frame
  counted = with_count (frame_at p.frames i) (raised p.settings.cap (frame_at p.frames i).count)

  hit_own : (write : Bool) → frame_at (hit_at p i write).frames i ≡ referred_frame (with_frame p i counted) i write
  unfolding hit_at referred
  hit_own write = get_or-set_same (with_frame p i counted).frames i (referred_frame (with_frame p i counted) i write) empty_frame (rw (length-set p.frames i counted, z.frames) l)

  pub hit_used : (write : Bool) → (frame_at (hit_at p i write).frames i).used ≡ (frame_at p.frames i).used
  hit_used write = ap (λ (fr : Frame). fr.used) (hit_own write) ∙ ap (λ (fr : Frame). fr.used) (own counted)

  pub hit_dirty : (write : Bool) → (frame_at (hit_at p i write).frames i).dirty ≡ ((frame_at p.frames i).dirty || write)
  hit_dirty write = ap (λ (fr : Frame). fr.dirty) (hit_own write) ∙ ap (λ (fr : Frame). fr.dirty || write) (own counted)

  module _ (page : ℕ) (write : Bool) where
    fetch_own : frame_at (fetched_at p i page write).frames i ≡ referred_frame (emptied p i page) i write
    unfolding fetched_at referred
    fetch_own = get_or-set_same (emptied p i page).frames i (referred_frame (emptied p i page) i write) empty_frame (rw (length-set p.frames i (new_frame page), z.frames) l)

    pub fetch_used : (frame_at (fetched_at p i page write).frames i).used ≡ true
    fetch_used = ap (λ (fr : Frame). fr.used) fetch_own ∙ ap (λ (fr : Frame). fr.used) (own (new_frame page))

    pub fetch_dirty : (frame_at (fetched_at p i page write).frames i).dirty ≡ write
    fetch_dirty = ap (λ (fr : Frame). fr.dirty) fetch_own ∙ ap (λ (fr : Frame). fr.dirty || write) (own (new_frame page))

  pub pin_dirty : (frame_at (pinned_at p i).frames i).dirty ≡ (frame_at p.frames i).dirty
  unfolding pinned_at
  pin_dirty = ap (λ (fr : Frame). fr.dirty) (own (with_pins (frame_at p.frames i) ((frame_at p.frames i).pins + 1)))

  pub unpin_dirty : (frame_at (unpinned_at p i).frames i).dirty ≡ (frame_at p.frames i).dirty
  unfolding unpinned_at
  unpin_dirty = ap (λ (fr : Frame). fr.dirty) (own (with_pins (frame_at p.frames i) ((frame_at p.frames i).pins - 1)))

-- pin and unpin change no length
pub pin_sized : (p : Pool) (i : ℕ) → Sized p → Sized (pinned_at p i)
unfolding pinned_at
pin_sized p i z = record { frames = length-set p.frames i (with_pins (frame_at p.frames i) ((frame_at p.frames i).pins + 1)) ∙ z.frames; access = z.access; write = z.write }

pub unpin_sized : (p : Pool) (i : ℕ) → Sized p → Sized (unpinned_at p i)
unfolding unpinned_at
unpin_sized p i z = record { frames = length-set p.frames i (with_pins (frame_at p.frames i) ((frame_at p.frames i).pins - 1)) ∙ z.frames; access = z.access; write = z.write }

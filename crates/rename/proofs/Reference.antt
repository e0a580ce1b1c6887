-- The bookkeeping of a renamed pool is the renamed bookkeeping.
use mathlib.Core.Path.{◌≡◌, refl, ap, ◌∙◌}
use mathlib.Core.Bool.{Bool, true, false}
use Prim.Native.Nat.{ℕ, ◌+◌, ◌-◌}
use Rattle.pool.specs.declared.Frame.{Frame}
use Rattle.pool.specs.declared.Pool.{Pool}
use Rattle.pool.specs.Pool.{frame_at, with_count, now_of, with_frames, with_frame, with_pins}
use Rattle.reference.specs.Reference.{raised, new_frame, referred_frame, referred, emptied, hit_at, fetched_at, pinned_at, unpinned_at}
use Rattle.victim.proofs.Owed.{map_set}
use Rattle.effect.specs.Record.{pinned_where, filled}
use Rattle.rename.specs.Renamed.{renamed_frame, renamed_pool}
use Rattle.rename.proofs.Frames.{frame_renamed}

module _ (ρ : ℕ → ℕ) (p : Pool) (i : ℕ) where
  -- what every reference does to frame i
  referred_renamed : (write : Bool) → referred (renamed_pool ρ p) i write ≡ renamed_pool ρ (referred p i write)
  unfolding referred now_of
  referred_renamed write = rw (frame_renamed ρ p.frames i) (ap (with_frames (referred p i write)) (map_set (renamed_frame ρ) p.frames i (referred_frame p i write)))

  -- frame i changed in a way that does not look at its page
  frame_changed : (change : Frame → Frame) → ((fr : Frame) → change (renamed_frame ρ fr) ≡ renamed_frame ρ (change fr))
      → with_frame (renamed_pool ρ p) i (change (frame_at (renamed_pool ρ p).frames i)) ≡ renamed_pool ρ (with_frame p i (change (frame_at p.frames i)))
  frame_changed change same =
      ap (λ (fr : Frame). with_frame (renamed_pool ρ p) i fr) (ap change (frame_renamed ρ p.frames i) ∙ same (frame_at p.frames i))
      ∙ ap (with_frames p) (map_set (renamed_frame ρ) p.frames i (change (frame_at p.frames i)))

  pin_renamed : pinned_at (renamed_pool ρ p) i ≡ renamed_pool ρ (pinned_at p i)
  unfolding pinned_at
  pin_renamed = frame_changed (λ fr. with_pins fr (fr.pins + 1)) (λ fr. refl)

  pub unpin_renamed : unpinned_at (renamed_pool ρ p) i ≡ renamed_pool ρ (unpinned_at p i)
  unfolding unpinned_at
  unpin_renamed = frame_changed (λ fr. with_pins fr (fr.pins - 1)) (λ fr. refl)

  -- a pin where it is asked for
  pub pinned_renamed : (pin : Bool) → pinned_where (renamed_pool ρ p) pin i ≡ renamed_pool ρ (pinned_where p pin i)
  pinned_renamed true = pin_renamed
  pinned_renamed false = refl

module _ (ρ : ℕ → ℕ) (p : Pool) (i : ℕ) (write : Bool) where
  abbrev raised_frame : Frame → Frame
  raised_frame fr = with_count fr (raised p.settings.cap fr.count)

  pub hit_renamed : hit_at (renamed_pool ρ p) i write ≡ renamed_pool ρ (hit_at p i write)
  unfolding hit_at
  hit_renamed =
      ap (λ (q : Pool). referred q i write) (frame_changed ρ p i raised_frame (λ fr. refl))
      ∙ referred_renamed ρ (with_frame p i (raised_frame (frame_at p.frames i))) i write

  module _ (page : ℕ) where
    emptied_renamed : emptied (renamed_pool ρ p) i (ρ page) ≡ renamed_pool ρ (emptied p i page)
    emptied_renamed = ap (with_frames (emptied p i page)) (map_set (renamed_frame ρ) p.frames i (new_frame page))

    fetch_renamed : fetched_at (renamed_pool ρ p) i (ρ page) write ≡ renamed_pool ρ (fetched_at p i page write)
    unfolding fetched_at
    fetch_renamed = ap (λ (q : Pool). referred q i write) emptied_renamed ∙ referred_renamed ρ (emptied p i page) i write

    -- a page fetched into frame i
    pub filled_renamed : (pin : Bool) → filled (renamed_pool ρ p) i (ρ page) write pin ≡ renamed_pool ρ (filled p i page write pin)
    filled_renamed pin = ap (λ (q : Pool). pinned_where q pin i) fetch_renamed ∙ pinned_renamed ρ (fetched_at p i page write) i pin

-- A renamed sound pool is sound: its pages stay distinct, and nothing else looks at them.
use mathlib.Core.Path.{◌≡◌, refl, ap, sym, ◌∙◌}
use mathlib.Core.Bool.{Bool, true, false}
use mathlib.Core.List.{List, map}
use Prim.Native.Nat.{ℕ, ◌<◌}
use native.Mathlib.Omega.{arith}
use Rattle.pool.specs.declared.Frame.{Frame}
use Rattle.pool.specs.declared.Pool.{Pool}
use Rattle.pool.specs.Pool.{frame_at, last_epoch_of}
use Rattle.pool.proofs.Sound.{SoundFrame, Sound}
use Rattle.effect.specs.Record.{dirty_in}
use Rattle.effect.proofs.Dirty.{dirty_same}
use Rattle.rename.specs.Renamed.{renamed_frame, renamed_pool}
use Rattle.rename.specs.Sameness.{Renames}
use Rattle.rename.proofs.Frames.{frame_renamed, page_renamed, AllListed}

module _ (ρ : ℕ → ℕ) (pages : List ℕ) (names : Renames ρ pages) (p : Pool) (s : Sound p) (listed : AllListed pages p.frames) where
  abbrev f : ℕ → Frame
  f i = frame_at p.frames i

  abbrev r : ℕ → Frame
  r i = frame_at (renamed_pool ρ p).frames i

  -- a field of a renamed frame
  same : {A : Type 0} (field : Frame → A) (i : ℕ) → field (r i) ≡ field (renamed_frame ρ (f i))
  same field i = ap field (frame_renamed ρ p.frames i)

  was : (i : ℕ) → (r i).used ≡ true → (f i).used ≡ true
  was i u = sym (same (λ fr. fr.used) i) ∙ u

  apart : (i j : ℕ) → (f i).used ≡ true → (f j).used ≡ true → ((f j).page ≡ (f i).page → ⊥) → (r j).page ≡ (r i).page → ⊥
  apart i j u v other e = other (names.one_to_one (f j).page (f i).page (listed j v) (listed i u) (sym (page_renamed ρ p.frames j v) ∙ e ∙ page_renamed ρ p.frames i u))

  frame_sound_lem : (i : ℕ) → i < 128 → SoundFrame (renamed_pool ρ p) i
  unfolding last_epoch_of
  frame_sound_lem i l =
      let g = s.frame i l in record {
        lowest = λ u j m. same (λ fr. fr.used) j ∙ g.lowest (was i u) j m;
        within = λ u. g.within (was i u);
        pages = λ u j m. apart i j (was i u) (g.lowest (was i u) j m) (g.pages (was i u) j m);
        zero = λ u. frame_renamed ρ p.frames i ∙ ap (renamed_frame ρ) (g.zero (sym (same (λ fr. fr.used) i) ∙ u));
        capped = rw (frame_renamed ρ p.frames i) g.capped;
        below = λ u. rw (frame_renamed ρ p.frames i) (g.below (was i u));
        lasts = λ u j m e. g.lasts (was i u) j m (sym (same (λ fr. fr.last) j) ∙ e ∙ same (λ fr. fr.last) i);
        access = rw (frame_renamed ρ p.frames i) g.access;
        write = rw (frame_renamed ρ p.frames i) g.write;
        accessed = λ u. rw (frame_renamed ρ p.frames i) (g.accessed (was i u));
        written = λ d. rw (frame_renamed ρ p.frames i) (g.written (sym (same (λ fr. fr.dirty) i) ∙ d));
      }

  pub sound_renamed : Sound (renamed_pool ρ p)
  sound_renamed = record { settings = s.settings; hand = s.hand; few = s.few; frame = frame_sound_lem }

  -- its pages are 4-byte numbers
  pub pages_fit : (i : ℕ) → i < 128 → (r i).page < 4294967296
  pages_fit i l = go (f i).used refl
    where
      go : (u : Bool) → (f i).used ≡ u → (r i).page < 4294967296
      go true u = rw (page_renamed ρ p.frames i u) (names.four_bytes (f i).page (listed i u))
      go false u = rw (frame_renamed ρ p.frames i, (s.frame i l).zero u) (omega arith)

-- as many frames are dirty
pub dirty_renamed : (ρ : ℕ → ℕ) (fs : List Frame) → dirty_in (map (renamed_frame ρ) fs) ≡ dirty_in fs
dirty_renamed ρ fs = dirty_same (map (renamed_frame ρ) fs) fs (λ i _. ap (λ (fr : Frame). fr.dirty) (frame_renamed ρ fs i))

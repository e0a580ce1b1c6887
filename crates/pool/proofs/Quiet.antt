-- Changes that touch no page, last step or log: counts, pins and dirtiness, the hand and the sampler.
use mathlib.Core.Path.{◌≡◌, sym, ◌∙◌}
use mathlib.Core.Bool.{true, false}
use mathlib.Core.List.{List}
use Prim.Native.Nat.{ℕ, ◌*◌, ◌≤◌, ◌<◌}
use native.Mathlib.Omega.{arith}
use Rattle.pool.specs.declared.Frame.{Frame}
use Rattle.pool.specs.declared.Pool.{Pool}
use Rattle.pool.specs.Pool.{frame_at, last_epoch_of}
use Rattle.pool.proofs.Sound.{Logged, SoundFrame, Sound}

-- a frame before and after: its count within the cap, not dirty where it was clean, and as it was where it is not in use
pub record Alike (cap : ℕ) (fr g : Frame) : Type 0 where
  pub used : g.used ≡ fr.used
  pub page : g.page ≡ fr.page
  pub last : g.last ≡ fr.last
  pub accesses : g.accesses ≡ fr.accesses
  pub writes : g.writes ≡ fr.writes
  pub dirty : g.dirty ≡ true → fr.dirty ≡ true
  pub count : g.count ≤ cap
  pub still : fr.used ≡ false → g ≡ fr

pub record Quiet (p q : Pool) : Type 0 where
  pub settings : q.settings ≡ p.settings
  pub k : q.k ≡ p.k
  pub access : q.access ≡ p.access
  pub write : q.write ≡ p.write
  pub hand : q.hand < p.settings.frames
  pub frame : (i : ℕ) → i < 128 → Alike p.settings.cap (frame_at p.frames i) (frame_at q.frames i)

-- such a change keeps a sound pool sound
module _ (p q : Pool) (s : Sound p) (z : Quiet p q) where
  same_epoch : (i : ℕ) → i < 128 → last_epoch_of p i ≡ last_epoch_of q i
  unfolding last_epoch_of
  same_epoch i l = sym (rw (z.settings, (z.frame i l).last))

  was : (i : ℕ) → i < 128 → (frame_at q.frames i).used ≡ true → (frame_at p.frames i).used ≡ true
  was i l u = sym (z.frame i l).used ∙ u

  quiet_log : (a b : List ℕ) (at room n m e d : ℕ) → b ≡ a → m ≡ n → e ≡ d → Logged a at room n e → Logged b at room m d
  quiet_log a b at room n m e d x y w g = rw (x, y, ← w) g

  quiet_frame : (i : ℕ) → i < 128 → SoundFrame q i
  quiet_frame i l =
      let g = s.frame i l in
      let a = z.frame i l in record {
        lowest = λ u j m. (z.frame j (omega arith)).used ∙ g.lowest (was i l u) j m;
        within = λ u. rw z.settings (g.within (was i l u));
        pages = λ u j m e. g.pages (was i l u) j m (sym (z.frame j (omega arith)).page ∙ e ∙ a.page);
        zero = λ u. let e : (frame_at p.frames i).used ≡ false = sym a.used ∙ u in a.still e ∙ g.zero e;
        capped = rw z.settings a.count;
        below = λ u. rw (a.last, z.k) (g.below (was i l u));
        lasts = λ u j m e. g.lasts (was i l u) j m (sym (z.frame j (omega arith)).last ∙ e ∙ a.last);
        access = quiet_log p.access q.access (i * 8) 8 _ _ _ _ z.access a.accesses (same_epoch i l) g.access;
        write = quiet_log p.write q.write (i * 4) 4 _ _ _ _ z.write a.writes (same_epoch i l) g.write;
        accessed = λ u. rw a.accesses (g.accessed (was i l u));
        written = λ d. rw a.writes (g.written (a.dirty d));
      }

  pub sound_quiet : Sound q
  sound_quiet = record {
    settings = rw z.settings s.settings;
    hand = rw z.settings z.hand;
    few = rw z.k s.few;
    frame = quiet_frame;
  }

-- A fresh pool is sound.
use mathlib.Core.Path.{◌≡◌, refl, ap, sym, ◌∙◌}
use mathlib.Core.Bool.{true, false, true≢false}
use Prim.Native.Nat.{ℕ, ◌+◌, ◌*◌, ◌≤◌, ◌<◌}
use native.Mathlib.Omega.{arith}
use lib.ListN.{replicate, get_or-replicate}
use Rattle.settings.specs.declared.Settings.{Settings}
use Rattle.settings.specs.Settings.{in_range, one_frame}
use Rattle.settings.proofs.Laws.{ranges}
use Rattle.search.proofs.Every.{pick_ind}
use Rattle.pool.specs.declared.Frame.{Frame}
use Rattle.pool.specs.Pool.{empty_frame, frame_at, fresh_pool, opened, fresh_of, last_epoch_of, Opened}
use Rattle.pool.specs.Sound.{sound_pool}
use Rattle.pool.proofs.Sound.{Logged, SoundFrame, Sound, made}

-- no entries in places that are all zero
no_entries : (n at room e : ℕ) → at + room ≤ n → Logged (replicate n 0) at room 0 e
no_entries n at room e h = record {
  short = omega arith;
  falls = λ j l. absurd (omega arith);
  high = λ j l. absurd (omega arith);
  rest = λ j l m. get_or-replicate n (at + j) 0 0 (omega arith);
}

empty_frame_lem : (s : Settings) (i : ℕ) → i < 128 → frame_at (fresh_pool s).frames i ≡ empty_frame
unfolding fresh_pool
empty_frame_lem s i l = get_or-replicate 128 i empty_frame empty_frame l

module _ (s : Settings) (r : in_range s ≡ true) where
  empty_at : (i : ℕ) → i < 128 → SoundFrame (fresh_pool s) i
  unfolding fresh_pool
  empty_at i l =
      let e = empty_frame_lem s i l in
      let off : (frame_at (fresh_pool s).frames i).used ≡ false = ap (λ (fr : Frame). fr.used) e in
      let clean : (frame_at (fresh_pool s).frames i).dirty ≡ false = ap (λ (fr : Frame). fr.dirty) e in
      let count : (frame_at (fresh_pool s).frames i).count ≡ 0 = ap (λ (fr : Frame). fr.count) e in
      let accesses : (frame_at (fresh_pool s).frames i).accesses ≡ 0 = ap (λ (fr : Frame). fr.accesses) e in
      let writes : (frame_at (fresh_pool s).frames i).writes ≡ 0 = ap (λ (fr : Frame). fr.writes) e in record {
        lowest = λ u. absurd (true≢false (sym u ∙ off));
        within = λ u. absurd (true≢false (sym u ∙ off));
        pages = λ u. absurd (true≢false (sym u ∙ off));
        zero = λ _. e;
        capped = omega arith;
        below = λ u. absurd (true≢false (sym u ∙ off));
        lasts = λ u. absurd (true≢false (sym u ∙ off));
        access = rw accesses (no_entries 1024 (i * 8) 8 (last_epoch_of (fresh_pool s) i) (omega arith));
        write = rw writes (no_entries 512 (i * 4) 4 (last_epoch_of (fresh_pool s) i) (omega arith));
        accessed = λ u. absurd (true≢false (sym u ∙ off));
        written = λ d. absurd (true≢false (sym d ∙ clean));
      }

  pub empty_sound : Sound (fresh_pool s)
  unfolding fresh_pool
  empty_sound = record { settings = r; hand = (ranges s r).frames.0; few = omega arith; frame = empty_at }

-- what `fresh` gives is sound, refused or not
pub fresh_sound : (s : Settings) → sound_pool (fresh_of s).pool ≡ true
unfolding fresh_of in_range
fresh_sound s =
    pick_ind (λ (o : Opened). sound_pool o.pool ≡ true) (in_range s) (opened 0 (fresh_pool s)) (opened 8 (fresh_pool one_frame))
    (λ e. made (fresh_pool s) (empty_sound s e))
    (λ _. made (fresh_pool one_frame) (empty_sound one_frame refl))

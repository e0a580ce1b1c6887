-- Laws of now and of a last step's epoch.
use mathlib.Core.Path.{◌≡◌}
use mathlib.Core.Bool.{true}
use Prim.Native.Nat.{ℕ, ◌≤◌, ◌<◌}
use native.Mathlib.Nat.{le_trans, le_of_lt, le-div_iff_mul-le, div-mul-le_self, div-le_self}
use Rattle.settings.specs.declared.Settings.{Settings}
use Rattle.settings.proofs.Laws.{ranges}
use Rattle.pool.specs.declared.Pool.{Pool}
use Rattle.limit.specs.Limits.{reference_limit}
use Rattle.pool.specs.Pool.{frame_at, epoch_at, now_of, last_epoch_of}
use Rattle.pool.proofs.Sound.{Sound}

-- epochs do not fall
epoch_up : (s : Settings) (a b : ℕ) → 0 < s.span → a ≤ b → epoch_at s a ≤ epoch_at s b
epoch_up s a b h l = (le-div_iff_mul-le h).1 (le_trans (div-mul-le_self a s.span) l)

module _ (p : Pool) (s : Sound p) where
  -- now is within the limit
  pub now_few : now_of p ≤ reference_limit
  unfolding now_of
  now_few = le_trans (div-le_self p.k p.settings.span) s.few

  -- no frame in use was last referenced after now
  pub last_before_now : (i : ℕ) → i < 128 → (frame_at p.frames i).used ≡ true → last_epoch_of p i ≤ now_of p
  unfolding last_epoch_of now_of
  last_before_now i l u = epoch_up p.settings (frame_at p.frames i).last p.k (ranges p.settings s.settings).span.0 (le_of_lt ((s.frame i l).below u))

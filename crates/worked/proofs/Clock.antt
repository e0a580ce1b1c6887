-- Sweeps worked by hand: counts lowered, pinned frames passed, all pinned.
use mathlib.Core.Path.{◌≡◌, refl}
use mathlib.Core.Bool.{true}
use mathlib.Core.List.{List, ◌∷◌}
use Prim.Native.Nat.{ℕ}
use lib.ListN.{replicate}
use Rattle.std.specs.Prelude.{Some, None}
use Rattle.search.specs.Search.{least_below, every_below}
use Rattle.pool.specs.declared.Frame.{Frame}
use Rattle.pool.specs.declared.Pool.{Pool}
use Rattle.settings.specs.Settings.{in_range}
use Rattle.pool.specs.Pool.{empty_frame, with_pins, with_count, with_last, with_accesses, with_k, with_hand, with_frames, fresh_pool, last_epoch_of}
use Rattle.reference.specs.Reference.{new_frame}
use Rattle.pool.specs.Sound.{sound_log, sound_pool}
use Rattle.victim.specs.Lru.{lru_victim, lru_choice}
use Rattle.worked.specs.Records.{clock}
use Rattle.victim.specs.Clock.{sweep_from, sweep_of, swept_choice, any_unpinned, clock_choice}

-- a frame in use: its page, pins, clock count and last step
abbrev pub held : ℕ → ℕ → ℕ → ℕ → Frame
held page pins count last = with_accesses (with_last (with_count (with_pins (new_frame page) pins) count) last) 1

abbrev pub pool_of : ℕ → ℕ → ℕ → List Frame → Pool
pool_of f cap hand fs = with_frames (with_hand (with_k (fresh_pool (clock f cap)) 4) hand) fs

-- f 3, cap 2, the hand on frame 0: counts 2, 1 and 1, as after P7's reads
abbrev pub counted : Pool
counted = pool_of 3 2 0 (held 1 0 2 3 ∷ held 2 0 1 1 ∷ held 3 0 1 2 ∷ replicate 125 empty_frame)

pub counted_sound : sound_pool counted ≡ true
unfolding sound_pool in_range every_below sound_log last_epoch_of fresh_pool
counted_sound = refl

pub counted_victim : (clock_choice counted).found ≡ Some 1
unfolding clock_choice swept_choice sweep_of sweep_from any_unpinned least_below fresh_pool
counted_victim = refl

pub counted_hand : (clock_choice counted).hand ≡ 2
unfolding clock_choice swept_choice sweep_of sweep_from any_unpinned least_below fresh_pool
counted_hand = refl

-- counts 2 1 1 were lowered to 0 0 0 in four visits, and the fifth rests
pub counted_frames : (clock_choice counted).frames ≡ held 1 0 0 3 ∷ held 2 0 0 1 ∷ held 3 0 0 2 ∷ replicate 125 empty_frame
unfolding clock_choice swept_choice sweep_of sweep_from any_unpinned least_below fresh_pool
counted_frames = refl

-- pinned frames are passed untouched
pub pinned_passed : (clock_choice (pool_of 3 2 0 (held 1 1 2 3 ∷ held 2 0 1 1 ∷ held 3 1 0 2 ∷ replicate 125 empty_frame))).frames ≡ held 1 1 2 3 ∷ held 2 0 0 1 ∷ held 3 1 0 2 ∷ replicate 125 empty_frame
unfolding clock_choice swept_choice sweep_of sweep_from any_unpinned least_below fresh_pool
pinned_passed = refl

-- every frame pinned: no victim
pub all_pinned : (clock_choice (pool_of 2 2 1 (held 1 1 2 0 ∷ held 2 1 0 1 ∷ replicate 126 empty_frame))).found ≡ None
unfolding clock_choice swept_choice sweep_of sweep_from any_unpinned least_below fresh_pool
all_pinned = refl

-- 128 frames, each count 7, pages and last steps left aside: the hand goes round seven times and rests on the first
pub longest : (clock_choice (pool_of 128 7 0 (replicate 128 (held 1 0 7 0)))).found ≡ Some 0
unfolding clock_choice swept_choice sweep_of sweep_from any_unpinned least_below fresh_pool
longest = refl

-- the same frames under LRU: frame 1, the least last step
pub lru_victim_lem : (lru_choice counted).found ≡ Some 1
unfolding lru_choice lru_victim least_below fresh_pool
lru_victim_lem = refl

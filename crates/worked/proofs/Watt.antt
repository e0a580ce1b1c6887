-- Worked by hand: pools of four frames whose draws name 1, 2 and 3.
use mathlib.Core.Path.{◌≡◌, refl}
use mathlib.Core.Bool.{true}
use mathlib.Core.List.{◌∷◌}
use Prim.Native.Nat.{ℕ, ◌+◌, ◌/◌}
use lib.ListN.{set, replicate}
use Rattle.std.specs.Prelude.{Some, None}
use Rattle.search.specs.Search.{least_below, every_below, among}
use Rattle.worth.specs.Value.{less_fraction, greater_of, worth_of, value_of}
use Rattle.settings.specs.Settings.{in_range, one_frame, set_rule, set_frames, set_sample, set_span}
use Rattle.pool.specs.declared.Frame.{Frame}
use Rattle.pool.specs.declared.Pool.{Pool}
use Rattle.settings.specs.declared.Settings.{Settings}
use Rattle.pool.specs.Pool.{empty_frame, with_pins, with_last, with_accesses, with_k, with_frames, with_access, fresh_pool, now_of, last_epoch_of}
use Rattle.reference.specs.Reference.{new_frame}
use Rattle.pool.specs.Sound.{sound_log, sound_pool}
use Rattle.victim.specs.Watt.{next_sampler, sampler_after, draws, value_at, watt_victim}

-- a page that was read once, at a step, and is pinned so many times
abbrev pub read_at : ℕ → ℕ → Frame
read_at step pins = with_accesses (with_pins (with_last (new_frame (step + 1)) step) pins) 1

-- WATT, f 4, seed 0, sample 3 and the epoch length
abbrev settings_for : ℕ → Settings
settings_for span = set_span span (set_sample 3 (set_frames 4 (set_rule 2 one_frame)))

-- with those: pages 1, 2, 3 and 4 read in frames 0 to 3, which are pinned so many times
abbrev pub four : ℕ → ℕ → ℕ → ℕ → ℕ → Pool
four epoch a b c d =
    let read = with_frames (with_k (fresh_pool (settings_for epoch)) 4) (read_at 0 a ∷ read_at 1 b ∷ read_at 2 c ∷ read_at 3 d ∷ replicate 124 empty_frame) in
    with_access read (set (set (set (replicate 1024 0) 8 (1 / epoch)) 16 (2 / epoch)) 24 (3 / epoch))

pub four_sound : sound_pool (four 1 0 1 1 1) ≡ true
unfolding sound_pool sound_log every_below in_range last_epoch_of fresh_pool
four_sound = refl

-- values 1/40, 1/30, 1/20 and 1/10: frame 1 is the least of those drawn
pub least_drawn : watt_victim (four 1 0 0 0 0) ≡ Some 1
unfolding watt_victim least_below among draws sampler_after next_sampler value_at value_of worth_of greater_of less_fraction now_of fresh_pool
least_drawn = refl

-- the drawn frames are pinned, frame 0 is not: it is the victim
pub drawn_pinned : watt_victim (four 1 0 1 1 1) ≡ Some 0
unfolding watt_victim least_below among draws sampler_after next_sampler value_at value_of worth_of greater_of less_fraction now_of fresh_pool
drawn_pinned = refl

-- in one epoch all values are 1/10: the lowest drawn frame that is not pinned
pub tied : watt_victim (four 10 0 1 0 0) ≡ Some 2
unfolding watt_victim least_below among draws sampler_after next_sampler value_at value_of worth_of greater_of less_fraction now_of fresh_pool
tied = refl

pub all_pinned : watt_victim (four 1 1 1 1 1) ≡ None
unfolding watt_victim least_below among draws sampler_after next_sampler value_at value_of worth_of greater_of less_fraction now_of fresh_pool
all_pinned = refl

-- Generalised clock.
use Rattle.std.specs.Prelude.{ℕ, zero, suc, ◌+◌, ◌-◌, ◌*◌, ◌%◌, Bool, true, false, ◌&&◌, List, [], ◌∷◌, ◌==◌, nat_lt, slice_set, Option, Some, None}
use Rattle.search.specs.Search.{pick, on_found, never, least_below}
use Rattle.pool.specs.declared.Frame.{Frame}
use Rattle.pool.specs.declared.Pool.{Pool}
use Rattle.pool.specs.Pool.{frame_at, with_count}
use Rattle.victim.specs.Choice.{Choice, Rule, unpinned, unmoved}

-- upward, from f − 1 back to 0
abbrev pub next_hand : ℕ → ℕ → ℕ
next_hand f h = pick (nat_lt (h + 1) f) (h + 1) 0

-- a pinned frame is passed untouched; a count above 0 is lowered by 1 and passed
abbrev pub passed_count : Frame → ℕ
passed_count fr = pick (fr.pins == 0) (fr.count - 1) fr.count

-- the frame passed
abbrev pub passed_frame : Frame → Frame
passed_frame fr = with_count fr (passed_count fr)

-- the frames when frame h is passed
abbrev pub passed : List Frame → ℕ → List Frame
passed fs h = slice_set fs h (passed_frame (frame_at fs h))

-- it rests on a frame with count 0, the victim; victims are always unpinned
abbrev pub rests : Frame → Bool
rests fr = fr.pins == 0 && fr.count == 0

-- the hand goes on until it rests, n frames visited at most: where it is then, and the frames
unfoldable pub sweep_from : ℕ → ℕ → ℕ → List Frame → ℕ × List Frame
sweep_from zero f h fs = (h, fs)
sweep_from (suc n) f h fs = let r = sweep_from n f (next_hand f h) (passed fs h) in pick (rests (frame_at fs h)) (h, fs) r

-- how many frames that takes, the one that it rests on among them
unfoldable pub visits : ℕ → ℕ → ℕ → List Frame → ℕ
visits zero f h fs = 0
visits (suc n) f h fs = let r = visits n f (next_hand f h) (passed fs h) in suc (pick (rests (frame_at fs h)) 0 r)

-- from the hand; this takes at most f × (cap + 1) frames visited
unfoldable pub sweep_of : Pool → ℕ × List Frame
sweep_of p = sweep_from (p.settings.frames * (p.settings.cap + 1)) p.settings.frames p.hand p.frames

-- it rests on the victim, and then moves one past it
abbrev pub rested_at : Pool → ℕ × List Frame → Choice
rested_at p r = record { found = Some r.0; hand = next_hand p.settings.frames r.0; sampler = p.sampler; frames = r.1 }

-- what the sweep leaves
unfoldable pub swept_choice : Pool → Choice
swept_choice p = rested_at p (sweep_of p)

-- the lowest unpinned frame below f
unfoldable pub any_unpinned : List Frame → ℕ → Option ℕ
any_unpinned fs f = least_below (unpinned fs) never f

-- whether some frame below f is unpinned
abbrev pub some_unpinned : Pool → Bool
some_unpinned p = on_found (any_unpinned p.frames p.settings.frames) (λ i. true) false

-- the sweep's victim; none, and nothing changed, where every frame below f is pinned
unfoldable pub clock_choice : Pool → Choice
clock_choice p = pick (some_unpinned p) (swept_choice p) (unmoved p None)

-- distance upward from the hand, of f frames
abbrev pub distance_from : ℕ → ℕ → ℕ → ℕ
distance_from hand f i = (i + f - hand) % f

-- from the hand after the sweep
abbrev pub distance : Pool → ℕ → ℕ
distance p i = distance_from p.hand p.settings.frames i

-- by count after the sweep, then distance
abbrev pub sooner : Pool → ℕ → ℕ → Bool
sooner p i j =
    pick ((frame_at p.frames i).count == (frame_at p.frames j).count)
    (nat_lt (distance p i) (distance p j))
    (nat_lt (frame_at p.frames i).count (frame_at p.frames j).count)

-- its batches go by that
abbrev pub clock_rule : Rule
clock_rule = record { choice = clock_choice; order = sooner; name = 99 ∷ 108 ∷ 111 ∷ 99 ∷ 107 ∷ [] }

-- WATT: draws, values and the victim.
use Rattle.std.specs.Prelude.{ℕ, zero, suc, ◌+◌, ◌*◌, ◌%◌, ◌^◌, Bool, true, ◌&&◌, List, [], ◌∷◌, ◌++◌, Option, Some}
use Rattle.search.specs.Search.{on_found, least_below, among}
use Rattle.worth.specs.declared.Fraction.{Fraction}
use Rattle.worth.specs.Value.{less_fraction, worth_of, value_of}
use Rattle.pool.specs.declared.Frame.{Frame}
use Rattle.pool.specs.declared.Pool.{Pool}
use Rattle.pool.specs.Pool.{access_room, write_room, frame_at, now_of}
use Rattle.victim.specs.Choice.{Choice, Rule, unpinned}

-- what each draw adds
abbrev pub sampler_step : ℕ
sampler_step = 2654435769

-- "each draw adds 2,654,435,769 to the sampler number, the sum kept modulo 4,294,967,296"
unfoldable pub next_sampler : ℕ → ℕ
next_sampler s = (s + sampler_step) % 2 ^ 32

-- the sampler number after n draws
unfoldable pub sampler_after : ℕ → ℕ → ℕ
sampler_after s zero = s
sampler_after s (suc n) = next_sampler (sampler_after s n)

-- the frames that n draws name, in order: each "names the frame that is its remainder by f"
unfoldable pub draws : ℕ → ℕ → ℕ → List ℕ
draws s f zero = []
draws s f (suc n) = draws s f n ++ (sampler_after s (suc n) % f ∷ [])

-- the value of a frame by its number and its logs in the flat arrays, at now
abbrev pub value_in : Frame → List ℕ → List ℕ → ℕ → ℕ → ℕ → Fraction
value_in fr access write i weight epoch = value_of (worth_of access (i * access_room) fr.accesses epoch) (worth_of write (i * write_room) fr.writes epoch) weight

module _ (p : Pool) where
  -- "one draw per unit of sample size": whether a frame is among those drawn
  abbrev pub drawn_frame : ℕ → Bool
  drawn_frame = among (draws p.sampler p.settings.frames p.settings.sample)

  -- frame i's value at now: of its access log and its write log
  unfoldable pub value_at : ℕ → Fraction
  value_at i = value_in (frame_at p.frames i) p.access p.write i p.settings.weight (now_of p)

  -- by value, exactly
  abbrev pub less_value : ℕ → ℕ → Bool
  less_value i j = less_fraction (value_at i) (value_at j)

  -- "the unpinned frame of least value, the lowest frame number on a tie", of the frames below f that count as drawn
  abbrev pub least_value : (ℕ → Bool) → Option ℕ
  least_value counts = least_below (λ i. counts i && unpinned p.frames i) less_value p.settings.frames

  -- "if every drawn frame is pinned, all frames count as drawn"
  unfoldable pub watt_victim : Option ℕ
  watt_victim = on_found (least_value drawn_frame) Some (least_value (λ _. true))

  -- the victim, and the sampler number after the draws; hand and frames are left alone, and all where every frame is pinned
  unfoldable pub watt_choice : Choice
  watt_choice = record {
    found = watt_victim;
    hand = p.hand;
    sampler = on_found watt_victim (λ _. sampler_after p.sampler p.settings.sample) p.sampler;
    frames = p.frames;
  }

-- its batches go by value over all frames; on a tie the search takes the lower frame number
abbrev pub watt_rule : Rule
watt_rule = record { choice = watt_choice; order = less_value; name = 119 ∷ 97 ∷ 116 ∷ 116 ∷ [] }

-- Settings that are wished for: a trace is taken as if its header said so.
use Rattle.std.specs.Prelude.{ℕ, suc, ◌^◌, Bool, true, ◌&&◌, Some, None, List, [], ◌∷◌, ltb, get_or, set, drop, replicate}
use Rattle.std.specs.Option.{unwrap_or}
use Rattle.search.specs.Search.{pick}
use Rattle.settings.specs.declared.Settings.{Settings}
use Rattle.settings.specs.Settings.{Field, the_fields, settings_numbers, settings_by}
use Rattle.wish.specs.declared.Wish.{Wish}

-- every setting is kept
abbrev pub no_wish : Wish
no_wish = record { numbers = replicate 8 None }

-- a wish with a number for one setting more, by its place among the eight; the last one counts
abbrev pub wished_for : Wish → ℕ → ℕ → Wish
wished_for w place n = record { numbers = set w.numbers place (Some n) }

-- a setting's number: the one wished for, else its own
abbrev pub chosen_at : Wish → ℕ → ℕ → ℕ
chosen_at w place own = unwrap_or (get_or w.numbers place None) own

-- the same for settings from a place on
abbrev pub chosen_from : Wish → ℕ → List ℕ → List ℕ
chosen_from w place [] = []
chosen_from w place (own ∷ ns) = chosen_at w place own ∷ chosen_from w (suc place) ns

-- each number fits the width of its field
abbrev pub fit_fields : List Field → List ℕ → Bool
fit_fields [] ns = true
fit_fields (f ∷ fs) ns = ltb (get_or ns 0 0) (256 ^ f.width) && fit_fields fs (drop 1 ns)

-- the settings of these numbers; where one is too great for its field, settings that are out of range
unfoldable pub settings_fitting : List ℕ → Settings
settings_fitting ns = pick (fit_fields the_fields ns) (settings_by ns) (settings_by [])

-- the settings with what is wished for
unfoldable pub wished_settings : Wish → Settings → Settings
wished_settings w own = settings_fitting (chosen_from w 0 (settings_numbers the_fields own))

-- the defaults: LRU, 64 frames, batch 8, cap 5, sample 8, weight 2, epoch 100, seed 1
abbrev pub usual_settings : Settings
usual_settings = record { rule = 0; frames = 64; batch = 8; cap = 5; sample = 8; weight = 2; span = 100; seed = 1 }

-- The settings of a trace and of a pool: one list of them, in the order of a trace's header, and what is made of it.
use Rattle.std.specs.Prelude.{ℕ, ◌+◌, Bool, true, ◌&&◌, List, [], ◌∷◌, ◌++◌, map, eqb, leb, get_or, set}
use Rattle.word.specs.Number.{bytes_of, number_at}
use Rattle.word.specs.declared.Order.{Order}
use Rattle.settings.specs.declared.Settings.{Settings}

-- a setting: its width in bytes, its number, and whether a number is in its range
pub record Field : Type 0 where
  pub width : ℕ
  pub number : Settings → ℕ
  pub fits : ℕ → Bool

-- such a setting
abbrev pub field : ℕ → (Settings → ℕ) → (ℕ → Bool) → Field
field width number fits = record { width = width; number = number; fits = fits }

-- a number from least to most
abbrev pub between : ℕ → ℕ → ℕ → Bool
between least most x = leb least x && leb x most

-- any number
abbrev pub any : ℕ → Bool
any x = true

-- the greatest epoch length
abbrev pub span_limit : ℕ
span_limit = 50000

-- rule 0 to 2, frames 1 to 128, batch size 1 to 16, count cap 1 to 7, sample size 1 to 16, write weight 0 to 16, epoch length 1 to 50,000; seed any
abbrev pub the_fields : List Field
the_fields =
    field 2 (λ (s : Settings). s.rule) (between 0 2)
    ∷ field 2 (λ (s : Settings). s.frames) (between 1 128)
    ∷ field 2 (λ (s : Settings). s.batch) (between 1 16)
    ∷ field 2 (λ (s : Settings). s.cap) (between 1 7)
    ∷ field 2 (λ (s : Settings). s.sample) (between 1 16)
    ∷ field 2 (λ (s : Settings). s.weight) (between 0 16)
    ∷ field 4 (λ (s : Settings). s.span) (between 1 span_limit)
    ∷ field 4 (λ (s : Settings). s.seed) any
    ∷ []

-- whether each of some passes a test
abbrev pub each_field : (Field → Bool) → List Field → Bool
each_field ok [] = true
each_field ok (f ∷ fs) = ok f && each_field ok fs

-- each setting is in its range, used by the rule or not
unfoldable pub in_range : Settings → Bool
in_range s = each_field (λ (f : Field). f.fits (f.number s)) the_fields

-- all eight agree
unfoldable pub same_settings : Settings → Settings → Bool
same_settings a b = each_field (λ (f : Field). eqb (f.number a) (f.number b)) the_fields

-- how many bytes some of them take
abbrev pub width_of : List Field → ℕ
width_of [] = 0
width_of (f ∷ fs) = f.width + width_of fs

-- all take 20
abbrev pub settings_length : ℕ
settings_length = width_of the_fields

-- the bytes of some of them, one after the other
abbrev pub field_bytes : Order → List Field → Settings → List ℕ
field_bytes o [] s = []
field_bytes o (f ∷ fs) s = bytes_of o f.width (f.number s) ++ field_bytes o fs s

-- the bytes of all
unfoldable pub settings_bytes : Order → Settings → List ℕ
settings_bytes o s = field_bytes o the_fields s

-- the numbers of some of them
abbrev pub settings_numbers : List Field → Settings → List ℕ
settings_numbers fs s = map (λ (f : Field). f.number s) fs

-- the numbers that stand one after the other from a place on
abbrev pub numbers_at : Order → List Field → ℕ → List ℕ → List ℕ
numbers_at o [] at bytes = []
numbers_at o (f ∷ fs) at bytes = number_at o f.width at bytes ∷ numbers_at o fs (at + f.width) bytes

-- the settings of these numbers, in the list's order
abbrev pub settings_by : List ℕ → Settings
settings_by ns = record {
  rule = get_or ns 0 0;
  frames = get_or ns 1 0;
  batch = get_or ns 2 0;
  cap = get_or ns 3 0;
  sample = get_or ns 4 0;
  weight = get_or ns 5 0;
  span = get_or ns 6 0;
  seed = get_or ns 7 0;
}

-- the settings that stand from a place on
unfoldable pub settings_at : Order → ℕ → List ℕ → Settings
settings_at o at bytes = settings_by (numbers_at o the_fields at bytes)

-- LRU, 1 frame, batch, cap, sample and epoch length 1, weight and seed 0
abbrev pub one_frame : Settings
one_frame = record { rule = 0; frames = 1; batch = 1; cap = 1; sample = 1; weight = 0; span = 1; seed = 0 }

-- the settings with another number at a place of the list
abbrev pub set_number : ℕ → ℕ → Settings → Settings
set_number i n s = settings_by (set (settings_numbers the_fields s) i n)

-- the settings with one of them set
abbrev pub set_rule : ℕ → Settings → Settings
set_rule = set_number 0

abbrev pub set_frames : ℕ → Settings → Settings
set_frames = set_number 1

abbrev pub set_batch : ℕ → Settings → Settings
set_batch = set_number 2

abbrev pub set_cap : ℕ → Settings → Settings
set_cap = set_number 3

abbrev pub set_sample : ℕ → Settings → Settings
set_sample = set_number 4

abbrev pub set_weight : ℕ → Settings → Settings
set_weight = set_number 5

abbrev pub set_span : ℕ → Settings → Settings
set_span = set_number 6

abbrev pub set_seed : ℕ → Settings → Settings
set_seed = set_number 7

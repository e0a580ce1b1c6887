-- Laws of the settings: their ranges, and when two are the same.
use mathlib.Core.Path.{◌≡◌, refl, ap}
use mathlib.Core.Bool.{Bool, true, and-eq-true_iff}
use mathlib.Core.List.{List, [], ◌∷◌}
use Prim.Native.Nat.{ℕ, ◌≤◌}
use lib.Dec.{eqb, leb}
use borrow.Author.Tests.{eq-eqb, eqb-true, leb-true}
use Rattle.settings.specs.Settings.{Field, the_fields, between, span_limit, each_field, in_range, same_settings, settings_numbers, settings_by}
use Rattle.settings.specs.declared.Settings.{Settings}

-- what a test of each field tells of every one
abbrev Each : (Field → Bool) → List Field → Type 0
Each ok [] = Unit {0}
Each ok (f ∷ fs) = (ok f ≡ true) × Each ok fs

each_passes : (ok : Field → Bool) (fs : List Field) → each_field ok fs ≡ true → Each ok fs
each_passes ok [] h = tt
each_passes ok (f ∷ fs) h = let b = (and-eq-true_iff (ok f) (each_field ok fs)).0 h in (b.0, each_passes ok fs b.1)

module _ (a b : Settings) where
  abbrev agree : Field → Bool
  agree f = eqb (f.number a) (f.number b)

  numbers_agree : (fs : List Field) → Each agree fs → settings_numbers fs a ≡ settings_numbers fs b
  numbers_agree [] h = refl
  numbers_agree (f ∷ fs) h = rw (eqb-true (f.number a) (f.number b) h.0, numbers_agree fs h.1)

  -- settings that the test calls the same are equal, and equal ones pass it
  pub same_equal : same_settings a b ≡ true → a ≡ b
  unfolding same_settings
  same_equal h = ap settings_by (numbers_agree the_fields (each_passes agree the_fields h))

self : (a : Settings) (fs : List Field) → each_field (agree a a) fs ≡ true
self a [] = refl
self a (f ∷ fs) = rw (eq-eqb (f.number a) (f.number a) refl) (self a fs)

pub same_self : (a : Settings) → same_settings a a ≡ true
unfolding same_settings
same_self a = self a the_fields

-- each setting within its bounds
pub record Ranges (s : Settings) : Type 0 where
  pub rule : s.rule ≤ 2
  pub frames : (1 ≤ s.frames) × (s.frames ≤ 128)
  pub batch : (1 ≤ s.batch) × (s.batch ≤ 16)
  pub cap : (1 ≤ s.cap) × (s.cap ≤ 7)
  pub sample : (1 ≤ s.sample) × (s.sample ≤ 16)
  pub weight : s.weight ≤ 16
  pub span : (1 ≤ s.span) × (s.span ≤ span_limit)

bounds : (least most x : ℕ) → between least most x ≡ true → (least ≤ x) × (x ≤ most)
bounds least most x h = let b = (and-eq-true_iff (leb least x) (leb x most)).0 h in (leb-true least x b.0, leb-true x most b.1)

-- what the test of the ranges tells
pub ranges : (s : Settings) → in_range s ≡ true → Ranges s
unfolding in_range
ranges s h =
    let r = each_passes (λ (f : Field). f.fits (f.number s)) the_fields h in
    record {
      rule = (bounds 0 2 s.rule r.0).1;
      frames = bounds 1 128 s.frames r.1.0;
      batch = bounds 1 16 s.batch r.1.1.0;
      cap = bounds 1 7 s.cap r.1.1.1.0;
      sample = bounds 1 16 s.sample r.1.1.1.1.0;
      weight = (bounds 0 16 s.weight r.1.1.1.1.1.0).1;
      span = bounds 1 span_limit s.span r.1.1.1.1.1.1.0;
    }

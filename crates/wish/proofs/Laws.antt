-- Numbers that fit their fields.
use mathlib.Core.Path.{◌≡◌, ◌∙◌}
use mathlib.Core.Bool.{Bool, true, false, ◌&&◌, and-eq-true_iff}
use mathlib.Core.List.{List, [], ◌∷◌}
use Prim.Native.Nat.{ℕ, ◌%◌, ◌<◌}
use native.Mathlib.Omega.{arith}
use native.Mathlib.Nat.{mod-eq_of_lt}
use lib.Dec.{ltb}
use lib.ListN.{drop}
use borrow.Author.Tests.{ltb-true, lt-ltb}
use Rattle.settings.specs.Settings.{the_fields, in_range, settings_by}
use Rattle.settings.proofs.Laws.{ranges}
use Rattle.settings.specs.declared.Settings.{Settings}
use Rattle.wish.specs.declared.Wish.{Wish}
use Rattle.wish.specs.Wish.{no_wish, chosen_at, fit_fields, settings_fitting, wished_settings}

-- the first of some fits, and the rest do
fits_first : (n w : ℕ) (rest : Bool) → (ltb n w && rest) ≡ true → (n % w ≡ n) × (rest ≡ true)
fits_first n w rest h = let b = (and-eq-true_iff (ltb n w) rest).0 h in (mod-eq_of_lt (ltb-true n w b.0), b.1)

module _ (rule frames batch cap sample weight span seed : ℕ) where
  abbrev numbers : List ℕ
  numbers = rule ∷ frames ∷ batch ∷ cap ∷ sample ∷ weight ∷ span ∷ seed ∷ []

  -- whether the fields behind so many fit
  abbrev fits_behind : ℕ → Bool
  fits_behind n = fit_fields (drop n the_fields) (drop n numbers)

  pub fitting : fit_fields the_fields numbers ≡ true
      → record {
        rule = rule % 65536;
        frames = frames % 65536;
        batch = batch % 65536;
        cap = cap % 65536;
        sample = sample % 65536;
        weight = weight % 65536;
        span = span % 4294967296;
        seed = seed % 4294967296;
      } ≡ settings_fitting numbers
  unfolding settings_fitting
  fitting h =
      let h0 = fits_first rule 65536 (fits_behind 1) h in
      let h1 = fits_first frames 65536 (fits_behind 2) h0.1 in
      let h2 = fits_first batch 65536 (fits_behind 3) h1.1 in
      let h3 = fits_first cap 65536 (fits_behind 4) h2.1 in
      let h4 = fits_first sample 65536 (fits_behind 5) h3.1 in
      let h5 = fits_first weight 65536 (fits_behind 6) h4.1 in
      let h6 = fits_first span 4294967296 (fits_behind 7) h5.1 in
      let h7 = fits_first seed 4294967296 (fits_behind 8) h6.1 in
      rw (h0.0, h1.0, h2.0, h3.0, h4.0, h5.0, h6.0, h7.0, h)

  pub not_fitting : (s : Settings) → fit_fields the_fields numbers ≡ false → s ≡ settings_by [] → s ≡ settings_fitting numbers
  unfolding settings_fitting
  not_fitting s h e = rw (e, h)

  pub wished_is : (w : Wish) (own s : Settings) → s ≡ settings_fitting numbers → rule ≡ chosen_at w 0 own.rule → frames ≡ chosen_at w 1 own.frames
      → batch ≡ chosen_at w 2 own.batch → cap ≡ chosen_at w 3 own.cap → sample ≡ chosen_at w 4 own.sample → weight ≡ chosen_at w 5 own.weight
      → span ≡ chosen_at w 6 own.span → seed ≡ chosen_at w 7 own.seed → s ≡ wished_settings w own
  unfolding wished_settings
  wished_is w own s e a b c d f g h i = e ∙ rw (a, b, c, d, f, g, h, i)

-- without a wish the settings are their own
pub no_wish_lem : (s : Settings) → in_range s ≡ true → s.seed < 4294967296 → wished_settings no_wish s ≡ s
unfolding wished_settings settings_fitting
no_wish_lem s r seed =
    let k = ranges s r in
    rw (
      lt-ltb s.rule 65536 (omega (arith, k.rule)),
      lt-ltb s.frames 65536 (omega (arith, k.frames.1)),
      lt-ltb s.batch 65536 (omega (arith, k.batch.1)),
      lt-ltb s.cap 65536 (omega (arith, k.cap.1)),
      lt-ltb s.sample 65536 (omega (arith, k.sample.1)),
      lt-ltb s.weight 65536 (omega (arith, k.weight)),
      lt-ltb s.span 4294967296 (omega (arith, k.span.1)),
      lt-ltb s.seed 4294967296 seed,
    )

-- where a number does not fit its field, the settings are out of range
pub unfit : (ns : List ℕ) → fit_fields the_fields ns ≡ false → in_range (settings_fitting ns) ≡ false
unfolding settings_fitting in_range
unfit ns h = rw h

-- What one search finds as a sum over all that it looks at: one past the number that passes, 0 where none does; and whether one passes.
use mathlib.Core.Path.{◌≡◌, refl, ap, sym, ◌∙◌}
use mathlib.Core.Bool.{Bool, true, false, ◌||◌}
use Prim.Native.Nat.{ℕ, ◌+◌, ◌-◌, ◌≤◌, ◌<◌}
use native.Mathlib.Omega.{arith}
use Rattle.std.specs.Prelude.{Option, Some, None}
use Rattle.search.specs.Search.{is_found, least_below, never}
use Rattle.search.specs.ForCode.{one_past, past}
use Rattle.search.proofs.Least.{least_zero, least_skip, least_first, least_keep, least_sound}

module _ (ok : ℕ → Bool) where
  pub past_none : 0 ≡ past (least_below ok never 0)
  past_none = sym (ap past (least_zero ok never))

  pub past_few : (i : ℕ) → past (least_below ok never i) ≤ i
  past_few i = go (least_below ok never i) refl
    where
      go : (f : Option ℕ) → least_below ok never i ≡ f → past f ≤ i
      go (Some j) e = let b = (least_sound ok never i j e).0 in omega arith
      go None e = omega arith

  -- one more is looked at; where it passes, none before it did
  pub past_more : (i n m : ℕ) (b : Bool) → ((j : ℕ) → j < i → ok i ≡ true → ok j ≡ true → ⊥) → ok i ≡ b → m ≡ one_past b i → n ≡ past (least_below ok never i) → n + m ≡ past (least_below ok never (i + 1))
  past_more i n m false one e x h = let same = ap past (least_skip ok never i e) in omega arith
  past_more i n m true one e x h = go (least_below ok never i) refl
    where
      go : (f : Option ℕ) → least_below ok never i ≡ f → n + m ≡ past (least_below ok never (i + 1))
      go (Some j) y = let s = least_sound ok never i j y in absurd (one j s.0 e s.1)
      go None y = let none = h ∙ ap past y in let first = ap past (least_first ok never i e y) in omega arith

  -- whether one passes, likewise
  pub seen_none : false ≡ is_found (least_below ok never 0)
  seen_none = sym (ap is_found (least_zero ok never))

  pub seen_more : (i : ℕ) (seen b : Bool) → ok i ≡ b → seen ≡ is_found (least_below ok never i) → (seen || b) ≡ is_found (least_below ok never (i + 1))
  seen_more i seen b e h = go (least_below ok never i) refl b e
    where
      next : (f : Option ℕ) → least_below ok never (i + 1) ≡ f → is_found f ≡ is_found (least_below ok never (i + 1))
      next f x = sym (ap is_found x)

      go : (f : Option ℕ) → least_below ok never i ≡ f → (b : Bool) → ok i ≡ b → (seen || b) ≡ is_found (least_below ok never (i + 1))
      go (Some j) y b x = rw (h, y) (next (Some j) (least_keep ok never i j refl y))
      go None y true x = rw (h, y) (next (Some i) (least_first ok never i x y))
      go None y false x = rw (h, y) (next None (least_skip ok never i x ∙ y))

  -- what the sum says in the end
  pub past_found : (n m : ℕ) → (n ≡ 0 → ⊥) → n ≡ past (least_below ok never m) → Some (n - 1) ≡ least_below ok never m
  past_found n m ne h = go (least_below ok never m) refl
    where
      go : (f : Option ℕ) → least_below ok never m ≡ f → Some (n - 1) ≡ least_below ok never m
      go (Some j) y = let q : n ≡ j + 1 = h ∙ ap past y in let r : n - 1 ≡ j = omega arith in ap Some r ∙ sym y
      go None y = absurd (ne (h ∙ ap past y))

  pub past_nothing : (n m : ℕ) → n ≡ 0 → n ≡ past (least_below ok never m) → None ≡ least_below ok never m
  past_nothing n m z h = go (least_below ok never m) refl
    where
      go : (f : Option ℕ) → least_below ok never m ≡ f → None ≡ least_below ok never m
      go (Some j) y = let q : n ≡ j + 1 = h ∙ ap past y in absurd (omega arith)
      go None y = sym y

-- How many frames are in use, where those are the lowest.
use mathlib.Core.Path.{◌≡◌, refl, ap, sym, ◌∙◌}
use mathlib.Core.Bool.{Bool, true, false, not, true≢false}
use mathlib.Core.List.{List}
use mathlib.Core.Logic.{⊎_elim}
use Prim.Native.Nat.{ℕ, ◌+◌, ◌-◌, ◌≤◌, ◌<◌}
use native.Mathlib.Omega.{arith}
use native.Mathlib.Nat.{eq-or-lt_of_le}
use native.Mathlib.Decide.{ℕ_discrete}
use lib.Dec.{ltb}
use borrow.Author.Tests.{lt-ltb, le-ltb}
use Rattle.std.specs.Prelude.{Option, Some, None}
use Rattle.search.specs.Search.{pick, on_found, one_if, least_below, never}
use Rattle.search.proofs.Least.{least_zero, least_skip, least_first, least_keep, least_sound, least_none, least_none_of, first_lowest, not_both}
use Rattle.search.proofs.Every.{denied, undenied, not_so}
use Rattle.pool.specs.declared.Frame.{Frame}
use Rattle.pool.specs.declared.Pool.{Pool}
use Rattle.pool.specs.Pool.{frame_at}
use Rattle.pool.proofs.Sound.{Sound}
use Rattle.settings.proofs.Laws.{ranges}
use Rattle.reference.specs.Search.{unused, lowest_unused}
use Rattle.reference.specs.ForCode.{UsedLowest, in_use, Residents}

-- as many as stand before what was found
abbrev before : Option ℕ → ℕ → ℕ
before found f = on_found found (λ i. i) f

module _ (fs : List Frame) where
  abbrev first : ℕ → Option ℕ
  first f = least_below (unused fs) never f

  -- the first unused frame is not in use, and all before it are
  first_unused : (f j : ℕ) → first f ≡ Some j → (frame_at fs j).used ≡ false
  first_unused f j e = denied (frame_at fs j).used (least_sound (unused fs) never f j e).1

  first_used : (f j i : ℕ) → first f ≡ Some j → i < j → (frame_at fs i).used ≡ true
  first_used f j i e l = undenied (frame_at fs i).used (first_lowest (unused fs) f j i e l)

  none_unused : (f i : ℕ) → first f ≡ None → i < f → (frame_at fs i).used ≡ true
  none_unused f i e l = undenied (frame_at fs i).used (least_none (unused fs) never f i e l)

  pub in_use_none : 0 ≡ in_use fs 0
  unfolding in_use
  in_use_none = sym (ap (λ (r : Option ℕ). before r 0) (least_zero (unused fs) never))

  -- one frame more is counted
  pub in_use_more : (i n : ℕ) (b : Bool) → UsedLowest fs → i < 128 → n ≡ in_use fs i → (frame_at fs i).used ≡ b → n + one_if b ≡ in_use fs (i + 1)
  unfolding in_use
  in_use_more i n b w l h u = go (first i) refl b u
    where
      next : (r : Option ℕ) → first (i + 1) ≡ r → before r (i + 1) ≡ before (first (i + 1)) (i + 1)
      next r e = sym (ap (λ (x : Option ℕ). before x (i + 1)) e)

      go : (r : Option ℕ) → first i ≡ r → (b : Bool) → (frame_at fs i).used ≡ b → n + one_if b ≡ before (first (i + 1)) (i + 1)
      go (Some j) e true q = absurd (true≢false (sym (w i j l (least_sound (unused fs) never i j e).0 q) ∙ first_unused i j e))
      go (Some j) e false q = let x : n ≡ j = h ∙ ap (λ (r : Option ℕ). before r i) e in let y = next (Some j) (least_keep (unused fs) never i j refl e) in omega arith
      go None e true q = let x : n ≡ i = h ∙ ap (λ (r : Option ℕ). before r i) e in let y = next None (least_skip (unused fs) never i (ap not q) ∙ e) in omega arith
      go None e false q = let x : n ≡ i = h ∙ ap (λ (r : Option ℕ). before r i) e in let y = next (Some i) (least_first (unused fs) never i (ap not q) e) in omega arith

  -- where the last frame is in use, all are
  pub in_use_all : (f : ℕ) → 0 < f → f ≤ 128 → UsedLowest fs → (frame_at fs (f - 1)).used ≡ true → f ≡ in_use fs f
  unfolding in_use
  in_use_all f z l w t =
      sym (ap (λ (r : Option ℕ). before r f)
      (least_none_of (unused fs) never f
      (λ j b. ap not (⊎_elim (λ (q : j ≡ f - 1). ap (λ (k : ℕ). (frame_at fs k).used) q ∙ t) (λ (q : j < f - 1). w (f - 1) j (omega arith) q t) (eq-or-lt_of_le (omega arith))))))

  -- the lowest unused frame
  unused_first : (f n : ℕ) → n ≡ in_use fs f → pick (ltb n f) (Some n) None ≡ first f
  unfolding in_use
  unused_first f n h = go (first f) refl
    where
      go : (r : Option ℕ) → first f ≡ r → pick (ltb n f) (Some n) None ≡ first f
      go (Some j) e =
          let x : n ≡ j = h ∙ ap (λ (r : Option ℕ). before r f) e in
          let l = (least_sound (unused fs) never f j e).0 in
          rw (lt-ltb n f (omega arith)) (ap Some x ∙ sym e)
      go None e = let x : n ≡ f = h ∙ ap (λ (r : Option ℕ). before r f) e in rw (le-ltb n f (omega arith)) (sym e)

module _ (p : Pool) (n : ℕ) (h : n ≡ in_use p.frames p.settings.frames) where
  pub unused_is : (free : Option ℕ) → free ≡ pick (ltb n p.settings.frames) (Some n) None → free ≡ lowest_unused p
  unfolding lowest_unused
  unused_is free e = e ∙ unused_first p.frames p.settings.frames n h

  -- in a sound pool those are the frames in use, with a page each
  pub residents : Sound p → Residents p.frames n
  unfolding in_use
  residents s = go (first p.frames p.settings.frames) refl
    where
      few : p.settings.frames ≤ 128
      few = (ranges p.settings s.settings).frames.1

      of : n ≤ 128 → ((i : ℕ) → i < n → (frame_at p.frames i).used ≡ true) → ((i : ℕ) → n ≤ i → i < 128 → (frame_at p.frames i).used ≡ true → ⊥) → Residents p.frames n
      of l used rest = record {
        few = l;
        used = used;
        rest = λ i m b. not_so (frame_at p.frames i).used (rest i m b);
        apart = λ i j m q e. (s.frame i (omega arith)).pages (used i m) j q e;
      }

      go : (r : Option ℕ) → first p.frames p.settings.frames ≡ r → Residents p.frames n
      go (Some j) e =
          let x : n ≡ j = h ∙ ap (λ (r : Option ℕ). before r p.settings.frames) e in
          let l = (least_sound (unused p.frames) never p.settings.frames j e).0 in
          let m = few in
          of (omega arith)
          (λ i m. first_used p.frames p.settings.frames j i e (omega arith))
          (λ i m b u. elim (ℕ_discrete i j) [
            | yes q ↦ not_both (frame_at p.frames i).used u (ap (λ (k : ℕ). (frame_at p.frames k).used) q ∙ first_unused p.frames p.settings.frames j e)
            | no q ↦ not_both (frame_at p.frames j).used ((s.frame i b).lowest u j (omega (arith, q))) (first_unused p.frames p.settings.frames j e)
          ])
      go None e =
          let x : n ≡ p.settings.frames = h ∙ ap (λ (r : Option ℕ). before r p.settings.frames) e in
          let m = few in
          of (omega arith)
          (λ i m. none_unused p.frames p.settings.frames i e (omega arith))
          (λ i m b u. let w = (s.frame i b).within u in omega arith)

-- in a sound pool the frames in use are the lowest-numbered
pub used_lowest : (p : Pool) → Sound p → UsedLowest p.frames
used_lowest p s i j l q e = (s.frame i l).lowest e j q

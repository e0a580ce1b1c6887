-- Each visit of the clock sweep that passes lowers what is left, counts plus distance, by exactly one.
use Rattle.std.proofs.Common.{◌≡◌, ℕ, zero, suc, ◌+◌, ◌-◌, ◌*◌, ◌<◌, ◌≤◌, Bool, true, false, eqb, ltb, leb, List, length, sym, refl, ap, ◌∙◌, subst, true≢false, arith, get_or-set_other, get_or-set_same, ltb-false, ltb-true, leb-false, leb-true}
use native.Mathlib.Decide.{ℕ_discrete}
use lib.ListN.{get_or-eq_default}
use lib.Seq.{set_out}
use borrow.Author.Tests.{eqb-false}
use Rattle.search.specs.Search.{pick}
use Rattle.search.proofs.Every.{pick_ind}
use Rattle.pool.specs.declared.Frame.{Frame}
use Rattle.pool.specs.Pool.{frame_at, empty_frame}
use Rattle.victim.specs.Choice.{unpinned}
use Rattle.victim.specs.Clock.{rests, passed_frame, passed, next_hand, sweep_from}

-- what a pick is, by its test, as facts that omega reads
pick_lt : (a b x y : ℕ) (P : ℕ → Type 0) → (a < b → P x) → (b ≤ a → P y) → P (pick (ltb a b) x y)
pick_lt a b x y P f g = pick_ind P (ltb a b) x y (λ e. f (ltb-true a b e)) (λ e. g (ltb-false a b e))

pick_le : (a b x y : ℕ) (P : ℕ → Type 0) → (a ≤ b → P x) → (b < a → P y) → P (pick (leb a b) x y)
pick_le a b x y P f g = pick_ind P (leb a b) x y (λ e. f (leb-true a b e)) (λ e. g (leb-false a b e))

-- The distance.

-- how far the hand at h is below u, going upward and round
abbrev pub dist : ℕ → ℕ → ℕ → ℕ
dist f h u = pick (leb h u) (u - h) (u + f - h)

dist_other : (f h u : ℕ) → h < f → u < f → (h ≡ u → ⊥) → suc (dist f (next_hand f h) u) ≡ dist f h u
dist_other f h u hf uf ne =
    pick_lt (h + 1) f (h + 1) 0 (λ x. suc (dist f x u) ≡ dist f h u)
    (λ a. pick_le (h + 1) u (u - (h + 1)) (u + f - (h + 1)) (λ x. suc x ≡ dist f h u)
    (λ b. pick_le h u (u - h) (u + f - h) (λ x. suc (u - (h + 1)) ≡ x) (λ d. omega arith) (λ d. omega arith))
    (λ b. pick_le h u (u - h) (u + f - h) (λ x. suc (u + f - (h + 1)) ≡ x) (λ d. omega arith) (λ d. omega arith)))
    (λ a. pick_le 0 u (u - 0) (u + f - 0) (λ x. suc x ≡ dist f h u)
    (λ b. pick_le h u (u - h) (u + f - h) (λ x. suc (u - 0) ≡ x) (λ d. omega arith) (λ d. omega arith))
    (λ b. omega arith))

dist_home : (f u : ℕ) → u < f → suc (dist f (next_hand f u) u) ≡ f
dist_home f u uf =
    pick_lt (u + 1) f (u + 1) 0 (λ x. suc (dist f x u) ≡ f)
    (λ a. pick_le (u + 1) u (u - (u + 1)) (u + f - (u + 1)) (λ x. suc x ≡ f) (λ b. omega arith) (λ b. omega arith))
    (λ a. pick_le 0 u (u - 0) (u + f - 0) (λ x. suc x ≡ f) (λ b. omega arith) (λ b. omega arith))

dist_here : (f u : ℕ) → dist f u u ≡ 0
dist_here f u = pick_le u u (u - u) (u + f - u) (λ x. x ≡ 0) (λ b. omega arith) (λ b. omega arith)

pub dist_below : (f h u : ℕ) → h < f → u < f → dist f h u < f
dist_below f h u hf uf = pick_le h u (u - h) (u + f - h) (λ x. x < f) (λ a. omega arith) (λ a. omega arith)

pub next_below : (f h : ℕ) → h < f → next_hand f h < f
next_below f h l = pick_lt (h + 1) f (h + 1) 0 (λ x. x < f) (λ a. a) (λ a. omega arith)

-- A frame passed.

-- what holds of frame i, and where the hand passes it of the frame passed, holds after the visit
pub passed_at : (fs : List Frame) (h i : ℕ) (P : Frame → Type 0) → P (frame_at fs i) → P (passed_frame (frame_at fs i)) → P (frame_at (passed fs h) i)
passed_at fs h i P other same = elim (ℕ_discrete h i) [
  | yes q ↦ subst (λ (x : ℕ). P (frame_at (passed fs x) i)) (sym q) (here (ltb i (length fs)) refl)
  | no q ↦ subst P (sym (get_or-set_other fs h i (passed_frame (frame_at fs h)) empty_frame (λ r. q (sym r)))) other
]
  where
    here : (t : Bool) → ltb i (length fs) ≡ t → P (frame_at (passed fs i) i)
    here true e = subst P (sym (get_or-set_same fs i (passed_frame (frame_at fs i)) empty_frame (ltb-true i (length fs) e))) same
    here false e = subst (λ (l : List Frame). P (frame_at l i)) (sym (set_out fs i (passed_frame (frame_at fs i)) (ltb-false i (length fs) e))) other

pub passed_unpinned : (fs : List Frame) (h u : ℕ) → unpinned fs u ≡ true → unpinned (passed fs h) u ≡ true
passed_unpinned fs h u t = passed_at fs h u (λ fr. eqb fr.pins 0 ≡ true) t t

-- a frame on which the hand does not rest stands in the list: past its end all are empty
inside : (fs : List Frame) (h : ℕ) → rests (frame_at fs h) ≡ false → h < length fs
inside fs h r = go (ltb h (length fs)) refl
  where
    go : (t : Bool) → ltb h (length fs) ≡ t → h < length fs
    go true e = ltb-true h (length fs) e
    go false e = absurd (true≢false (sym (ap rests (get_or-eq_default fs empty_frame (ltb-false h (length fs) e))) ∙ r))

-- Visits left until the hand rests, at the latest at the unpinned frame u: counts plus distance.

abbrev pub to_go : ℕ → ℕ → List Frame → ℕ → ℕ
to_go f u fs h = f * (frame_at fs u).count + dist f h u

-- an unpinned frame on which the hand does not rest has a count, which passing lowers
count_falls : (f : ℕ) (fr : Frame) → eqb fr.pins 0 ≡ true → rests fr ≡ false → f * (passed_frame fr).count + f ≡ f * fr.count
count_falls f fr t r = rw t (go fr.count (sym (rw t) ∙ r))
  where
    go : (n : ℕ) → eqb n 0 ≡ false → f * (n - 1) + f ≡ f * n
    go zero e = absurd (eqb-false 0 0 e refl)
    go (suc n) e = let q : suc n - 1 ≡ n = omega arith in rw q (omega arith)

module _ (f u : ℕ) (uf : u < f) (fs : List Frame) (h : ℕ) (hf : h < f) (t : unpinned fs u ≡ true) (r : rests (frame_at fs h) ≡ false) where
  falls_here : h ≡ u → suc (to_go f u (passed fs h) (next_hand f h)) ≡ to_go f u fs h
  falls_here q =
      let home = dist_home f u uf in
      let here = dist_here f u in
      let r' = subst (λ (x : ℕ). rests (frame_at fs x) ≡ false) q r in
      let falls = count_falls f (frame_at fs u) t r' in
      let e : frame_at (passed fs u) u ≡ passed_frame (frame_at fs u) = get_or-set_same fs u (passed_frame (frame_at fs u)) empty_frame (inside fs u r') in
      let goal : suc (f * (passed_frame (frame_at fs u)).count + dist f (next_hand f u) u) ≡ f * (frame_at fs u).count + dist f u u = omega arith in
      subst (λ (x : ℕ). suc (to_go f u (passed fs x) (next_hand f x)) ≡ to_go f u fs x) (sym q) (subst (λ (fr : Frame). suc (f * fr.count + dist f (next_hand f u) u) ≡ to_go f u fs u) (sym e) goal)

  falls_other : (h ≡ u → ⊥) → suc (to_go f u (passed fs h) (next_hand f h)) ≡ to_go f u fs h
  falls_other q =
      let d = dist_other f h u hf uf q in
      subst (λ (fr : Frame). suc (f * fr.count + dist f (next_hand f h) u) ≡ to_go f u fs h)
      (sym (get_or-set_other fs h u (passed_frame (frame_at fs h)) empty_frame (λ e. q (sym e))))
      (omega arith)

  pub to_go_falls : suc (to_go f u (passed fs h) (next_hand f h)) ≡ to_go f u fs h
  to_go_falls = elim (ℕ_discrete h u) [ yes q ↦ falls_here q | no q ↦ falls_other q ]

-- One visit of the sweep.

pub sweep_stop : (n f h : ℕ) (fs : List Frame) → rests (frame_at fs h) ≡ true → sweep_from (suc n) f h fs ≡ (h, fs)
unfolding sweep_from
sweep_stop n f h fs e = rw e

pub sweep_on : (n f h : ℕ) (fs : List Frame) → rests (frame_at fs h) ≡ false → sweep_from (suc n) f h fs ≡ sweep_from n f (next_hand f h) (passed fs h)
unfolding sweep_from
sweep_on n f h fs e = rw e

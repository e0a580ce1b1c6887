-- A single step, over variables.
use mathlib.Core.Path.{◌≡◌, refl, ap, sym, ◌∙◌}
use mathlib.Core.Bool.{Bool, true, false}
use mathlib.Core.List.{List}
use Prim.Native.Nat.{ℕ, zero, suc, ◌≤◌}
use native.Mathlib.Omega.{arith}
use lib.ListN.{length}
use lib.Dec.{leb}
use borrow.Author.Tests.{leb-true}
use Rattle.refusal.specs.Refusals.{demand, bad_field, no_room, not_sound}
use Rattle.refusal.proofs.Laws.{met}
use Rattle.settings.proofs.Laws.{ranges}
use Rattle.trace.specs.Layout.{known_kind}
use Rattle.pool.specs.declared.Pool.{Pool}
use Rattle.pool.proofs.Sound.{told}
use Rattle.pool.proofs.Sizes.{Sized}
use Rattle.tally.specs.declared.Row.{Row}
use Rattle.tally.specs.declared.Tally.{Tally}
use Rattle.tally.specs.Rows.{refused_row}
use Rattle.tally.specs.Tally.{tally_limit, counted_by}
use Rattle.tally.specs.ForCode.{Countable}
use Rattle.tally.proofs.Laws.{within_countable}
use Rattle.effect.specs.Record.{record_of}
use Rattle.table.specs.declared.Bench.{Bench}
use Rattle.table.specs.Table.{pool_on}
use Rattle.effect.specs.ForCode.{Effect, effect_of, Leaves, Plays}
use Rattle.effect.proofs.Kept.{record_kept}
use Rattle.replay.specs.Calls.{may_begin, step_refusal, StepInto}
use Rattle.replay.proofs.Begins.{begins_sound, begins_within}

-- no number of a refusal is above 15
demand_few : (b : Bool) (r n : ℕ) → r ≤ 15 → n ≤ 15 → demand b r n ≤ 15
demand_few true r n l k = k
demand_few false r n l k = l

module _ (p : Pool) (t : Tally) (kind places : ℕ) where
  pub step_few : step_refusal p t kind places ≤ 15
  unfolding step_refusal
  step_few =
      let room = demand (leb p.settings.batch places) no_room 0 in
      demand_few (may_begin p t) not_sound (demand (known_kind kind) bad_field room) (omega arith)
      (demand_few (known_kind kind) bad_field room (omega arith) (demand_few (leb p.settings.batch places) no_room 0 (omega arith) (omega arith)))

  -- the refusals of a step, one after the other
  pub step_unsound : may_begin p t ≡ false → step_refusal p t kind places ≡ not_sound
  unfolding step_refusal
  step_unsound b = rw b

  pub step_unknown : may_begin p t ≡ true → known_kind kind ≡ false → step_refusal p t kind places ≡ bad_field
  unfolding step_refusal
  step_unknown b k = rw (b, k)

  pub step_known : may_begin p t ≡ true → known_kind kind ≡ true → step_refusal p t kind places ≡ demand (leb p.settings.batch places) no_room 0
  unfolding step_refusal
  step_known b k = rw (b, k)

  pub step_met : step_refusal p t kind places ≡ 0 → (may_begin p t ≡ true) × (p.settings.batch ≤ places)
  unfolding step_refusal
  step_met h =
      let room = demand (leb p.settings.batch places) no_room 0 in
      let a = met (may_begin p t) not_sound (demand (known_kind kind) bad_field room) (omega arith) h in
      let b = met (known_kind kind) bad_field room (omega arith) a.1 in
      let c = met (leb p.settings.batch places) no_room 0 (omega arith) b.1 in
      (a.0, leb-true p.settings.batch places c.0)

module _ (p : Pool) (t : Tally) (page kind : ℕ) where
  pub step_plays : (places r : ℕ) → Sized p → r ≡ step_refusal p t kind places → r ≡ 0 → Plays p (record_of p page kind) 0 places
  step_plays places r z e h =
      let m = step_met p t kind places (sym e ∙ h) in
      let s = begins_sound p t m.0 in
      let k = record_kept p (told p s) z page kind in
      record { sound = s; access = z.access; write = z.write; room = let f = k.few in let l = m.1 in omega arith }

  pub step_countable : (places r : ℕ) (q : Pool) (e : Effect) → Sized p → r ≡ step_refusal p t kind places → r ≡ 0 → q ≡ p → e ≡ effect_of (record_of q page kind) → Countable t e.row
  step_countable places r q e z x h same y =
      let m = step_met p t kind places (sym x ∙ h) in
      let s = told p (begins_sound p t m.0) in
      let k = record_kept p s z page kind in
      let few = (ranges p.settings s.settings).batch.1 in
      let f = k.few in
      let c = k.counted in
      let batch = ap (λ (f : Effect). f.row.batch) y ∙ ap (λ (x : Pool). (record_of x page kind).row.batch) same in
      within_countable t e.row tally_limit (omega arith) (begins_within p t m.0) (omega arith)

  pub step_refused : (list : List ℕ) (r : ℕ) (w : Row) → r ≡ step_refusal p t kind (length list) → (r ≡ 0 → ⊥) → w ≡ refused_row r
      → StepInto p t page kind list (record { refusal = r; row = w; pool = p; tally = t }) list
  step_refused list r w e ne h = go r e ne h
    where
      go : (n : ℕ) → n ≡ step_refusal p t kind (length list) → (n ≡ 0 → ⊥) → w ≡ refused_row n → StepInto p t page kind list (record { refusal = n; row = w; pool = p; tally = t }) list
      go zero e ne h = absurd (ne refl)
      go (suc n) e ne h = record { answers = rw (← e, h); list_holds = rw (← e) }

  pub step_done : (list list' : List ℕ) (r : ℕ) (q : Pool) (w : Row) (b : Bench) (left : Pool) (u : Tally) → r ≡ step_refusal p t kind (length list) → r ≡ 0
      → q ≡ p → Leaves (record_of q page kind) 0 w b list list' → left ≡ pool_on b → u ≡ counted_by t w
      → StepInto p t page kind list (record { refusal = 0; row = w; pool = left; tally = u }) list'
  step_done list list' r q w b left u o h same x d y =
      let z : step_refusal p t kind (length list) ≡ 0 = sym o ∙ h in
      let row = ap (λ (f : Effect). f.row) x.effect ∙ ap (λ (v : Pool). (record_of v page kind).row) same in
      let pool = d ∙ ap (λ (f : Effect). f.pool) x.effect ∙ ap (λ (v : Pool). (record_of v page kind).pool) same in
      record { answers = rw (z, y, pool, row); list_holds = x.list ∙ rw (z, same) }

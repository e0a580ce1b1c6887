-- Where a record is refused and where it is not: the limit of references, want of a frame, the pool afterwards.
use mathlib.Core.Path.{◌≡◌, refl, ap, ◌∙◌}
use mathlib.Core.Bool.{Bool, true, false, ◌&&◌}
use mathlib.Core.Logic.{◌↔◌}
use Prim.Native.Nat.{ℕ, ◌+◌, ◌≤◌, ◌<◌}
use native.Mathlib.Omega.{arith}
use lib.Dec.{eqb}
use borrow.Author.Tests.{lt-leb}
use Rattle.std.specs.Prelude.{Option, Some, None}
use Rattle.limit.specs.Limits.{reference_limit}
use Rattle.pool.specs.declared.Pool.{Pool}
use Rattle.pool.proofs.Sound.{Sound}
use Rattle.reference.specs.Search.{find_page, lowest_unused}
use Rattle.tally.specs.declared.Row.{Row}
use Rattle.tally.specs.Rows.{row}
use Rattle.effect.specs.Record.{Did, pin_limit, pins_at, refusal, record_of}
use Rattle.effect.proofs.Ways.{absent, free}
use Rattle.effect.proofs.Answers.{Accepted, kind_reference, EveryPinned, limit_refuses, hit_answers, miss_accepted, no_frame_only, no_frame_where}

module _ (p : Pool) (page kind : ℕ) (reference : kind ≤ 2) where
  -- a reference below the limit that is refused neither for want of a frame nor for a full pin count
  accepted : p.k < reference_limit → ((record_of p page kind).row.outcome ≡ 110 → ⊥) → ((record_of p page kind).row.outcome ≡ 112 → ⊥) → Accepted p (record_of p page kind)
  accepted room framed pinned = found (find_page p.frames page) refl
    where
      hit : (b : Bool) (i : ℕ) → find_page p.frames page ≡ Some i → (eqb kind 2 && eqb (pins_at p i) pin_limit) ≡ b → Accepted p (record_of p page kind)
      hit true i a t = absurd (pinned (ap (λ (d : Did). d.row.outcome) ((hit_answers p page kind reference room i a).0 t)))
      hit false i a t = (hit_answers p page kind reference room i a).1 t

      found : (f : Option ℕ) → find_page p.frames page ≡ f → Accepted p (record_of p page kind)
      found (Some i) a = hit (eqb kind 2 && eqb (pins_at p i) pin_limit) i a refl
      found None a = miss_accepted p page kind reference room a framed

  -- k 49,999 accepts one more: any reference that is not refused by 10 or 12 is a hit or a miss, and k is 50,000
  pub one_more_lem : p.k + 1 ≡ reference_limit → ((record_of p page kind).row.outcome ≡ 110 → ⊥) → ((record_of p page kind).row.outcome ≡ 112 → ⊥)
      → ((record_of p page kind).row.outcome ≤ 3) × ((record_of p page kind).pool.k ≡ reference_limit)
  one_more_lem e framed pinned = let a = accepted (omega arith) framed pinned in let k = a.k in (a.outcome, omega arith)

  -- so is a read, a write or a pin of an absent page where a frame is unused
  pub one_more_miss : p.k + 1 ≡ reference_limit → find_page p.frames page ≡ None → (i : ℕ) → lowest_unused p ≡ Some i → ((record_of p page kind).row ≡ row 1 i 0 0) × ((record_of p page kind).pool.k ≡ reference_limit)
  one_more_miss e miss i unused =
      let d = kind_reference p page kind reference ∙ absent p page (eqb kind 1) (eqb kind 2) (lt-leb reference_limit p.k (omega arith)) miss ∙ free p page (eqb kind 1) (eqb kind 2) i unused in
      let w = ap (λ (d : Did). d.row) d in
      let n = ap (λ (w : Row). w.outcome) w in
      (w, (one_more_lem e (λ h. omega arith) (λ h. omega arith)).1)

  -- 9: k is 50,000 at a reference
  pub no_more : p.k ≡ reference_limit → record_of p page kind ≡ refusal p 9
  no_more e = limit_refuses p page kind reference (omega arith)

  -- 10: a miss with all f frames in use and pinned, and no other miss
  pub no_frame_lem : Sound p → p.k < reference_limit → find_page p.frames page ≡ None → ((record_of p page kind).row.outcome ≡ 110) ↔ EveryPinned p
  no_frame_lem s room miss =
      (no_frame_only p page kind reference room miss s, λ h. ap (λ (d : Did). d.row.outcome) (no_frame_where p page kind reference room miss s h))

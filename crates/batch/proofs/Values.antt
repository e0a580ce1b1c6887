-- WATT: the values of frames, in the batch order, and as they are held.
use mathlib.Core.Path.{◌≡◌, ap, ◌∙◌}
use mathlib.Core.Bool.{Bool, false}
use mathlib.Core.List.{List}
use Prim.Native.Nat.{ℕ, ◌+◌, ◌<◌}
use native.Mathlib.Omega.{arith}
use native.Mathlib.Decide.{ℕ_discrete}
use lib.ListN.{length, set}
use lib.Seq.{get_or-set_same, get_or-set_other}
use Rattle.search.specs.Search.{pick}
use Rattle.worth.specs.declared.Fraction.{Fraction}
use Rattle.worth.specs.Value.{fraction}
use Rattle.pool.specs.declared.Frame.{Frame}
use Rattle.pool.specs.declared.Pool.{Pool}
use Rattle.pool.specs.Pool.{frame_at, now_of}
use Rattle.victim.specs.Watt.{value_in, less_value}
use Rattle.victim.specs.Rules.{batch_order}
use Rattle.victim.proofs.watt.Values.{value_is}
use Rattle.batch.specs.Batch.{waits}
use Rattle.batch.specs.ForCode.{waits_beside, value_where, ValuedTo}

-- values compare as the batch order does
pub value_order : (p : Pool) → p.settings.rule ≡ 2 → (i j : ℕ) → less_value p i j ≡ batch_order p i j
unfolding batch_order
value_order p e i j = rw e

-- the marks of waiting frames and their values, one frame more
module _ (p : Pool) (v : ℕ) where
  pub valued_none : (ws : List Bool) (xs : List Fraction) → ValuedTo p v 0 ws xs
  valued_none ws xs = record { waiting = λ i l. absurd (omega arith); value = λ i l. absurd (omega arith) }

  module _ (ws : List Bool) (xs : List Fraction) (n epoch : ℕ) (a : length ws ≡ 128) (b : length xs ≡ 128) (l : n < 128) (k : ValuedTo p v n ws xs) (e : epoch ≡ now_of p) where
    with_frame_lem : (r : Fraction) → r ≡ pick (waits p v n) (value_in (frame_at p.frames n) p.access p.write n p.settings.weight epoch) (fraction 0 1)
        → ValuedTo p v (n + 1) (set ws n (waits p v n)) (set xs n r)
    with_frame_lem r g =
        let h : r ≡ value_where (waits p v n) p n = g ∙ ap (λ (x : Fraction). pick (waits p v n) x (fraction 0 1)) (value_is p n epoch e) in record {
          waiting = λ i m. elim (ℕ_discrete i n) [
            | yes q ↦ rw (q, get_or-set_same ws n (waits p v n) false (rw a l))
            | no q ↦ rw (get_or-set_other ws n i (waits p v n) false q) (k.waiting i (omega (arith, q)))
          ];
          value = λ i m. elim (ℕ_discrete i n) [
            | yes q ↦ rw (q, get_or-set_same xs n r (fraction 0 0) (rw b l)) h
            | no q ↦ rw (get_or-set_other xs n i r (fraction 0 0) q) (k.value i (omega (arith, q)))
          ];
        }

    pub valued_more : (fr : Frame) (w : Bool) (r : Fraction) → fr ≡ frame_at p.frames n → w ≡ waits_beside fr v n
        → r ≡ pick w (value_in fr p.access p.write n p.settings.weight epoch) (fraction 0 1)
        → ValuedTo p v (n + 1) (set ws n w) (set xs n r)
    valued_more fr w r q x g =
        let y : w ≡ waits p v n = x ∙ rw q in
        rw y (with_frame_lem r (rw (y, q) at g))

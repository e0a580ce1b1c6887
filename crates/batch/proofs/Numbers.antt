-- LRU and clock: the numbers of frames, small enough to be keys, and in the batch order.
use mathlib.Core.Path.{◌≡◌, refl, ap, sym, ◌∙◌}
use mathlib.Core.Bool.{Bool, true, false}
use mathlib.Core.List.{List}
use Prim.Native.Nat.{ℕ, zero, suc, ◌+◌, ◌-◌, ◌*◌, ◌%◌, ◌≤◌, ◌<◌}
use native.Mathlib.Omega.{arith}
use native.Mathlib.Nat.{mod-lt, mod-eq_of_lt, add-mod_right}
use native.Mathlib.Decide.{ℕ_discrete}
use lib.ListN.{length, set}
use lib.Seq.{get_or-set_same, get_or-set_other}
use lib.Dec.{eqb, ltb}
use borrow.Author.Tests.{eqb-true, eqb-false, lt-ltb, ltb-true}
use Rattle.search.specs.Search.{pick}
use Rattle.search.proofs.Every.{pick_ind, same_test}
use Rattle.settings.proofs.Laws.{ranges}
use Rattle.pool.specs.declared.Frame.{Frame}
use Rattle.pool.specs.declared.Pool.{Pool}
use Rattle.pool.specs.Pool.{frame_at}
use Rattle.pool.proofs.Sound.{Sound}
use Rattle.victim.specs.Rules.{by_rule, batch_order}
use Rattle.search.specs.ForCode.{keyed, rank_limit}
use Rattle.victim.proofs.lru.Laws.{lasts_below}
use Rattle.victim.specs.Clock.{distance}
use Rattle.batch.specs.Batch.{waits}
use Rattle.batch.specs.ForCode.{waits_beside, number_from, number_of, KeyedTo}

-- the distance with no division
pub up_from : (i f hand : ℕ) → hand ≤ i → i < f → i - hand ≡ (i + f - hand) % f
up_from i f hand l m = let q : i + f - hand ≡ i - hand + f = omega arith in sym (ap (λ (x : ℕ). x % f) q ∙ add-mod_right (i - hand) f ∙ mod-eq_of_lt (omega arith))

pub up_round : (i f hand : ℕ) → i < hand → hand < f → i + f - hand ≡ (i + f - hand) % f
up_round i f hand l m = sym (mod-eq_of_lt (omega arith))

pub remainder_small : (x f : ℕ) → 0 < f → f ≤ 128 → x % f < 128
remainder_small x f h l = let q = mod-lt x h in omega arith

-- counts, then distances below 128, are compared as one number
lexical : (c d e h : ℕ) → d < 128 → h < 128 → ltb (c * 128 + d) (e * 128 + h) ≡ pick (eqb c e) (ltb d h) (ltb c e)
lexical c d e h x y = go (eqb c e) refl
  where
    go : (t : Bool) → eqb c e ≡ t → ltb (c * 128 + d) (e * 128 + h) ≡ pick t (ltb d h) (ltb c e)
    go true q =
        let z = eqb-true c e q in
        same_test (ltb (c * 128 + d) (e * 128 + h)) (ltb d h)
        (λ k. let l = ltb-true (c * 128 + d) (e * 128 + h) k in lt-ltb d h (omega arith))
        (λ k. let l = ltb-true d h k in lt-ltb (c * 128 + d) (e * 128 + h) (omega arith))
    go false q =
        let z = eqb-false c e q in
        same_test (ltb (c * 128 + d) (e * 128 + h)) (ltb c e)
        (λ k. let l = ltb-true (c * 128 + d) (e * 128 + h) k in lt-ltb c e (omega (arith, z)))
        (λ k. let l = ltb-true c e k in lt-ltb (c * 128 + d) (e * 128 + h) (omega arith))

distance_small : (p : Pool) → Sound p → (i : ℕ) → distance p i < 128
distance_small p s i =
    let r = (ranges p.settings s.settings).frames in
    remainder_small _ p.settings.frames r.0 r.1

-- the keys, one frame more
pub keyed_more : (p : Pool) (v n : ℕ) (keys : List ℕ) (fr : Frame) (w : Bool) (rank key : ℕ) → length keys ≡ 128 → n < 128 → KeyedTo p v n keys → fr ≡ frame_at p.frames n
    → w ≡ waits_beside fr v n → rank ≡ number_from p.settings.rule fr n p.settings.frames p.hand → key ≡ keyed w rank n
    → KeyedTo p v (n + 1) (set keys n key)
keyed_more p v n keys fr w rank key long l k q x y z = record {
  key = λ i m. elim (ℕ_discrete i n) [
    | yes e ↦ rw (e, get_or-set_same keys n key 0 (rw long l)) here
    | no e ↦ rw (get_or-set_other keys n i key 0 e) (k.key i (omega (arith, e)))
  ];
}
  where
    here : key ≡ keyed (waits p v n) (number_of p n) n
    here = z ∙ rw (x, y, q)

-- a sound pool's numbers are small
pub number_small : (p : Pool) → Sound p → (i : ℕ) → i < p.settings.frames → number_of p i ≤ rank_limit
number_small p s i l =
    let r = ranges p.settings s.settings in
    let few = r.frames.1 in
    let capped = (s.frame i (omega arith)).capped in
    let cap = r.cap.1 in
    let far = distance_small p s i in
    pick_ind (λ n. n ≤ rank_limit) (eqb p.settings.rule 1) ((frame_at p.frames i).count * 128 + distance p i) (frame_at p.frames i).last (λ _. omega arith) (λ _. (lasts_below p s).1 i l)

-- and compare as the batch order does
pub number_order : (p : Pool) → Sound p → (p.settings.rule ≡ 2 → ⊥) → (i j : ℕ) → ltb (number_of p i) (number_of p j) ≡ batch_order p i j
unfolding batch_order
number_order p s ne i j = go p.settings.rule (let r = (ranges p.settings s.settings).rule in omega (arith, ne))
  where
    go : (r : ℕ) → r < 2 → ltb (number_from r (frame_at p.frames i) i p.settings.frames p.hand) (number_from r (frame_at p.frames j) j p.settings.frames p.hand) ≡ (by_rule r).order p i j
    go zero m = refl
    go (suc zero) m = lexical (frame_at p.frames i).count (distance p i) (frame_at p.frames j).count (distance p j) (distance_small p s i) (distance_small p s j)
    go (suc (suc r)) m = absurd (omega arith)

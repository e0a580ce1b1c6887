-- The batch does not look at pages: with other pages it has the same frames, and what it leaves has those pages.
use mathlib.Core.Path.{◌≡◌, refl, ap, ◌∙◌}
use mathlib.Core.Bool.{Bool, ◌&&◌, not}
use mathlib.Core.List.{List, [], ◌∷◌, map}
use Prim.Native.Nat.{ℕ, ◌-◌}
use lib.ListN.{set}
use lib.Dec.{eqb}
use Rattle.search.specs.Search.{pick}
use Rattle.pool.specs.declared.Frame.{Frame}
use Rattle.pool.specs.declared.Pool.{Pool}
use Rattle.pool.specs.Pool.{frame_at}
use Rattle.victim.proofs.Owed.{repaged, repaged_pool, EmptyStays, frame_repaged, map_set}
use Rattle.victim.proofs.Rules.{choice_owes}
use Rattle.batch.specs.Taken.{others_to}
use Rattle.victim.specs.Rules.{batch_order}
use Rattle.batch.specs.Batch.{waits, batch_of, clean_frame, cleaned}
use Rattle.batch.proofs.Whole.{others_same}

module _ (new : Bool → ℕ → ℕ) (stays : EmptyStays new) where
  module _ (p : Pool) where
    abbrev fs : List Frame
    fs = p.frames

    abbrev q : Pool
    q = repaged_pool new p

    -- the order of each rule
    order_repaged : (i j : ℕ) → batch_order q i j ≡ batch_order p i j
    order_repaged = choice_owes.sorts new stays p

    waits_repaged : (v i : ℕ) → waits q v i ≡ waits p v i
    waits_repaged v i = ap (λ (fr : Frame). (fr.dirty && eqb fr.pins 0) && not (eqb v i)) (frame_repaged new stays fs i)

    pub batch_repaged : (v : ℕ) → batch_of q v ≡ batch_of p v
    unfolding batch_of
    batch_repaged v =
        ap (λ (fr : Frame). pick fr.dirty (v ∷ others_to (waits q v) (batch_order q) p.settings.frames (p.settings.batch - 1)) []) (frame_repaged new stays fs v)
        ∙ ap (λ (l : List ℕ). pick (frame_at fs v).dirty (v ∷ l) [])
        (others_same (waits q v) (waits p v) (batch_order q) (batch_order p) p.settings.frames (λ i _. waits_repaged v i) (λ i j _ _ _ _. order_repaged i j) (p.settings.batch - 1))

  pub cleaned_repaged : (fs : List Frame) (xs : List ℕ) → cleaned (map (repaged new) fs) xs ≡ map (repaged new) (cleaned fs xs)
  unfolding cleaned
  cleaned_repaged fs [] = refl
  cleaned_repaged fs (x ∷ xs) =
      ap (λ (fr : Frame). cleaned (set (map (repaged new) fs) x (clean_frame fr)) xs) (frame_repaged new stays fs x)
      ∙ ap (λ (gs : List Frame). cleaned gs xs) (map_set (repaged new) fs x (clean_frame (frame_at fs x)))
      ∙ cleaned_repaged (set fs x (clean_frame (frame_at fs x))) xs

-- What a batch is: the victim first, then exactly the least of the other dirty unpinned frames; and what it leaves.
use mathlib.Core.Path.{◌≡◌, refl, ap, sym, ◌∙◌}
use mathlib.Core.Bool.{Bool, true, false, true≢false}
use mathlib.Core.List.{List, [], ◌∷◌}
use mathlib.Core.Logic.{⊎_elim}
use Prim.Native.Nat.{ℕ, ◌-◌, ◌≤◌}
use native.Mathlib.Omega.{arith}
use native.Mathlib.Decide.{ℕ_discrete}
use lib.ListN.{length}
use lib.Dec.{ltb}
use Rattle.search.specs.Search.{pick, among}
use Rattle.search.proofs.Least.{Order, by_key}
use Rattle.search.proofs.Every.{pick_ind}
use Rattle.settings.proofs.Laws.{ranges}
use Rattle.pool.specs.declared.Frame.{Frame}
use Rattle.pool.specs.declared.Pool.{Pool}
use Rattle.pool.specs.Pool.{frame_at, with_dirty, with_frames}
use Rattle.pool.proofs.Sound.{Sound}
use Rattle.pool.proofs.Sizes.{Sized}
use Rattle.pool.proofs.Quiet.{Alike, Quiet, sound_quiet}
use Rattle.victim.specs.Watt.{less_value}
use Rattle.victim.proofs.watt.Laws.{watt_order}
use Rattle.batch.specs.Taken.{others_to}
use Rattle.victim.specs.Rules.{batch_order}
use Rattle.batch.specs.Batch.{waits, batch_of, clean_frame, cleaned}
use Rattle.batch.specs.ForCode.{number_of}
use Rattle.batch.proofs.Numbers.{number_order}
use Rattle.batch.proofs.Values.{value_order}
use Rattle.batch.proofs.Taken.{Chosen, chosen, Enough, enough}
use Rattle.batch.proofs.Cleaned.{cleaned_at, cleaned_length}

-- what compares as an order does is one
same_order : (less less' : ℕ → ℕ → Bool) → ((i j : ℕ) → less i j ≡ less' i j) → Order less → Order less'
same_order less less' e o = record {
  asym = λ a b h. sym (e b a) ∙ o.asym a b (e a b ∙ h);
  weak = λ a b c h k. sym (e a b) ∙ o.weak a b c (e a c ∙ h) (e b c ∙ k);
}

module _ (p : Pool) (s : Sound p) where
  -- the batch order is an order, under every rule
  pub batch_order_lem : Order (batch_order p)
  batch_order_lem = elim (ℕ_discrete p.settings.rule 2) [
    | yes e ↦ same_order (less_value p) (batch_order p) (value_order p e) (watt_order p)
    | no e ↦ same_order (λ i j. ltb (number_of p i) (number_of p j)) (batch_order p) (number_order p s e) (by_key (number_of p))
  ]

  module _ (v : ℕ) where
    -- the others of a batch
    abbrev pub others : List ℕ
    others = others_to (waits p v) (batch_order p) p.settings.frames (p.settings.batch - 1)

    -- each is below f, dirty, unpinned and not the victim; they are sorted; and one that is left out comes after each of them
    pub others_chosen : Chosen (waits p v) (batch_order p) p.settings.frames batch_order_lem others
    others_chosen = chosen (waits p v) (batch_order p) p.settings.frames batch_order_lem (p.settings.batch - 1)

    -- where the batch is not full none is left out
    pub others_enough : Enough (waits p v) (batch_order p) p.settings.frames batch_order_lem others (p.settings.batch - 1)
    others_enough = enough (waits p v) (batch_order p) p.settings.frames batch_order_lem (p.settings.batch - 1)

    -- a clean victim writes nothing, a dirty one comes first
    pub batch_clean : (frame_at p.frames v).dirty ≡ false → batch_of p v ≡ []
    unfolding batch_of
    batch_clean d = rw d

    pub batch_dirty : (frame_at p.frames v).dirty ≡ true → batch_of p v ≡ v ∷ others
    unfolding batch_of
    batch_dirty d = rw d

    few : length others ≤ p.settings.batch - 1
    few = ⊎_elim {C = length others ≤ p.settings.batch - 1} (λ q. rw q (omega arith)) (λ q. let z = q.0 in omega arith) others_enough

    -- it is no longer than the batch size
    pub batch_length : length (batch_of p v) ≤ p.settings.batch
    unfolding batch_of
    batch_length =
        let some = (ranges p.settings s.settings).batch.0 in
        let n = few in
        pick_ind (λ (l : List ℕ). length l ≤ p.settings.batch) (frame_at p.frames v).dirty (v ∷ others) [] (λ _. omega arith) (λ _. omega arith)

  -- cleaning changes nothing but dirtiness
  alike : (b : Bool) (fr : Frame) → fr.count ≤ p.settings.cap → (fr.used ≡ false → fr.dirty ≡ false) → Alike p.settings.cap fr (pick b (clean_frame fr) fr)
  alike true fr c z = record {
    used = refl;
    page = refl;
    last = refl;
    accesses = refl;
    writes = refl;
    dirty = λ d. absurd (true≢false (sym d));
    count = c;
    still = λ u. ap (with_dirty fr) (sym (z u));
  }
  alike false fr c z = record { used = refl; page = refl; last = refl; accesses = refl; writes = refl; dirty = λ d. d; count = c; still = λ _. refl }

  pub cleaned_quiet : (xs : List ℕ) → Quiet p (with_frames p (cleaned p.frames xs))
  cleaned_quiet xs = record {
    settings = refl;
    k = refl;
    access = refl;
    write = refl;
    hand = s.hand;
    frame = λ i l. rw (cleaned_at p.frames xs i)
        (alike (among xs i) (frame_at p.frames i) (s.frame i l).capped (λ u. ap (λ (g : Frame). g.dirty) ((s.frame i l).zero u)));
  }

  -- what a batch leaves is sound
  pub batch_sound : (v : ℕ) → Sound (with_frames p (cleaned p.frames (batch_of p v)))
  batch_sound v = sound_quiet p (with_frames p (cleaned p.frames (batch_of p v))) s (cleaned_quiet (batch_of p v))

-- and as long as it was
pub batch_sized : (p : Pool) (v : ℕ) → Sized p → Sized (with_frames p (cleaned p.frames (batch_of p v)))
batch_sized p v z = record { frames = cleaned_length p.frames (batch_of p v) ∙ z.frames; access = z.access; write = z.write }

-- How many frames are dirty after each change of a pool.
use mathlib.Core.Path.{◌≡◌, refl, ap, sym, subst, ◌∙◌}
use mathlib.Core.Bool.{Bool, true, false, ◌||◌, ◌&&◌, not, true≢false}
use mathlib.Core.List.{List, [], ◌∷◌}
use Prim.Native.Nat.{ℕ, ◌+◌, ◌≤◌, ◌<◌}
use native.Mathlib.Omega.{arith}
use lib.ListN.{length, set, length-set}
use lib.Seq.{get_or-set_same, get_or-set_other}
use lib.Dec.{eqb}
use borrow.Author.Tests.{eqb-false}
use Rattle.search.specs.Search.{one_if}
use Rattle.search.proofs.Count.{count_cong, count_but_one}
use Rattle.search.proofs.Among.{All}
use Rattle.settings.proofs.Laws.{ranges}
use Rattle.pool.specs.declared.Frame.{Frame}
use Rattle.pool.specs.declared.Pool.{Pool}
use Rattle.pool.specs.Pool.{empty_frame, frame_at}
use Rattle.pool.proofs.Sound.{Sound}
use Rattle.pool.proofs.Sizes.{Sized}
use Rattle.reference.specs.Reference.{hit_at, fetched_at, pinned_at, unpinned_at}
use Rattle.reference.proofs.Others.{hit_other, fetch_other, pin_other, unpin_other}
use Rattle.reference.proofs.Referred.{hit_dirty, fetch_dirty, pin_dirty, unpin_dirty}
use Rattle.victim.specs.Choice.{unpinned}
use Rattle.victim.specs.Rules.{choice_of, batch_order}
use Rattle.victim.proofs.Rules.{choice_owes}
use Rattle.batch.specs.Batch.{waits, batch_of, clean_frame, cleaned}
use Rattle.batch.proofs.Taken.{Distinct, Chosen}
use Rattle.batch.proofs.Laws.{others, others_chosen, batch_clean, batch_dirty, batch_order_lem}
use Rattle.effect.specs.Record.{dirty_in}

abbrev dirty_at : List Frame → ℕ → Bool
dirty_at fs i = (frame_at fs i).dirty

-- frames that agree are as many dirty
pub dirty_same : (fs gs : List Frame) → ((i : ℕ) → i < 128 → dirty_at fs i ≡ dirty_at gs i) → dirty_in fs ≡ dirty_in gs
unfolding dirty_in
dirty_same fs gs f = count_cong (dirty_at fs) (dirty_at gs) 128 f

-- frames that agree but at one
pub dirty_but_one : (fs gs : List Frame) (i : ℕ) → i < 128 → ((j : ℕ) → (j ≡ i → ⊥) → frame_at fs j ≡ frame_at gs j)
    → dirty_in fs + one_if (dirty_at gs i) ≡ dirty_in gs + one_if (dirty_at fs i)
unfolding dirty_in
dirty_but_one fs gs i l f = count_but_one (dirty_at fs) (dirty_at gs) 128 i l (λ j ne. ap (λ (fr : Frame). fr.dirty) (f j ne))

or_few : (a b : Bool) → one_if (a || b) ≤ one_if a + one_if b
or_few true b = omega arith
or_few false b = omega arith

module _ (p : Pool) (z : Sized p) (i : ℕ) (l : i < 128) where
  -- a reference makes at most one dirty, and only a write does
  pub hit_spent : (write : Bool) → dirty_in (hit_at p i write).frames ≤ dirty_in p.frames + one_if write
  hit_spent write =
      let h = dirty_but_one (hit_at p i write).frames p.frames i l (λ j ne. (hit_other p z i j l ne write).frame) in
      let e = ap one_if (hit_dirty p z i l write) in
      let o = or_few (dirty_at p.frames i) write in
      omega arith

  pub fetch_spent : (page : ℕ) (write : Bool) → dirty_in (fetched_at p i page write).frames ≤ dirty_in p.frames + one_if write
  fetch_spent page write =
      let h = dirty_but_one (fetched_at p i page write).frames p.frames i l (λ j ne. (fetch_other p z i j l ne page write).frame) in
      let e = ap one_if (fetch_dirty p z i l page write) in
      omega arith

  pub pin_spent : dirty_in (pinned_at p i).frames ≡ dirty_in p.frames
  pin_spent =
      let h = dirty_but_one (pinned_at p i).frames p.frames i l (λ j ne. (pin_other p i j ne).frame) in
      let e = ap one_if (pin_dirty p z i l) in
      omega arith

  pub unpin_spent : dirty_in (unpinned_at p i).frames ≡ dirty_in p.frames
  unpin_spent =
      let h = dirty_but_one (unpinned_at p i).frames p.frames i l (λ j ne. (unpin_other p i j ne).frame) in
      let e = ap one_if (unpin_dirty p z i l) in
      omega arith

-- a rule makes none dirty and cleans none
pub choice_spent : (p : Pool) → dirty_in (choice_of p).frames ≡ dirty_in p.frames
choice_spent p = dirty_same (choice_of p).frames p.frames (λ i l. ap (λ (fr : Frame). fr.dirty) (choice_owes.lowers p i).kept)

-- frames cleaned one after the other, each dirty until then
abbrev Due : List Frame → List ℕ → Type 0
Due fs xs = All (λ i. (i < 128) × (dirty_at fs i ≡ true)) xs

due_still : (fs : List Frame) (x : ℕ) (xs : List ℕ) → All (λ y. x ≡ y → ⊥) xs → Due fs xs → Due (set fs x (clean_frame (frame_at fs x))) xs
unfolding All
due_still fs x [] a d = tt
due_still fs x (y ∷ xs) a d = (
  (d.0.0, ap (λ (fr : Frame). fr.dirty) (get_or-set_other fs x y (clean_frame (frame_at fs x)) empty_frame (λ e. a.0 (sym e))) ∙ d.0.1),
  due_still fs x xs a.1 d.1,
)

pub cleaned_spent : (fs : List Frame) (xs : List ℕ) → length fs ≡ 128 → Distinct xs → Due fs xs → dirty_in (cleaned fs xs) + length xs ≡ dirty_in fs
unfolding cleaned Distinct All
cleaned_spent fs [] n a d = omega arith
cleaned_spent fs (x ∷ xs) n a d =
    let gs = set fs x (clean_frame (frame_at fs x)) in
    let rest = cleaned_spent gs xs (length-set fs x (clean_frame (frame_at fs x)) ∙ n) a.1 (due_still fs x xs a.0 d.1) in
    let one = dirty_but_one gs fs x d.0.0 (λ j ne. get_or-set_other fs x j (clean_frame (frame_at fs x)) empty_frame ne) in
    let was = ap one_if d.0.1 in
    let now = ap (λ (fr : Frame). one_if fr.dirty) (get_or-set_same fs x (clean_frame (frame_at fs x)) empty_frame (rw n d.0.0)) in
    omega arith

-- the frames of a batch are dirty and distinct
waits_tells : (d u e : Bool) → ((d && u) && not e) ≡ true → (d ≡ true) × (e ≡ false)
waits_tells true true false h = (refl, refl)
waits_tells true true true h = absurd (true≢false (sym h))
waits_tells true false e h = absurd (true≢false (sym h))
waits_tells false u e h = absurd (true≢false (sym h))

module _ (p : Pool) (s : Sound p) (v : ℕ) (l : v < 128) where
  due_others : (xs : List ℕ) → All (λ t. (t < p.settings.frames) × (waits p v t ≡ true)) xs → Due p.frames xs × All (λ y. v ≡ y → ⊥) xs
  unfolding All
  due_others [] a = (tt, tt)
  due_others (x ∷ xs) a =
      let f = (ranges p.settings s.settings).frames.1 in
      let m = a.0.0 in
      let t = waits_tells (dirty_at p.frames x) (unpinned p.frames x) (eqb v x) a.0.1 in
      let rest = due_others xs a.1 in
      (((omega arith, t.0), rest.0), (eqb-false v x t.1, rest.1))

  none_due : Distinct [] × Due p.frames []
  unfolding Distinct All
  none_due = (tt, tt)

  one_due : (xs : List ℕ) → dirty_at p.frames v ≡ true → Distinct xs → Due p.frames xs × All (λ y. v ≡ y → ⊥) xs → Distinct (v ∷ xs) × Due p.frames (v ∷ xs)
  unfolding Distinct All
  one_due xs d a h = ((h.1, a), ((l, d), h.0))

  pub batch_due : Distinct (batch_of p v) × Due p.frames (batch_of p v)
  batch_due = go (dirty_at p.frames v) refl
    where
      c : Chosen (waits p v) (batch_order p) p.settings.frames (batch_order_lem p s) (others p s v)
      c = others_chosen p s v

      go : (d : Bool) → dirty_at p.frames v ≡ d → Distinct (batch_of p v) × Due p.frames (batch_of p v)
      go true e = subst (λ (xs : List ℕ). Distinct xs × Due p.frames xs) (sym (batch_dirty p s v e)) (one_due (others p s v) e c.distinct (due_others (others p s v) c.waiting))
      go false e = subst (λ (xs : List ℕ). Distinct xs × Due p.frames xs) (sym (batch_clean p s v e)) none_due

  -- what a batch cleans is what it writes
  pub batch_spent : Sized p → dirty_in (cleaned p.frames (batch_of p v)) + length (batch_of p v) ≡ dirty_in p.frames
  batch_spent z = cleaned_spent p.frames (batch_of p v) z.frames batch_due.0 batch_due.1

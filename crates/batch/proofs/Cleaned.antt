-- All batch pages become clean, and nothing else changes; the pages written are theirs.
use mathlib.Core.Path.{◌≡◌, refl, ap, sym, subst, ◌∙◌}
use mathlib.Core.Bool.{Bool, true, false, ◌||◌, or_comm}
use mathlib.Core.List.{List, [], ◌∷◌, ◌++◌}
use Prim.Native.Nat.{ℕ, suc, ◌+◌, ◌≤◌, ◌<◌}
use native.Mathlib.Omega.{arith}
use native.Mathlib.Decide.{dec_lt}
use native.Mathlib.Nat.{add-zero, add-suc, suc-add}
use lib.ListN.{length, set, length-set, length-map, get_or-eq_default}
use lib.Seq.{sets, set_comm, ext_get_or, get_or-set_same, get_or-set_other}
use lib.Dec.{eqb}
use borrow.Author.Tests.{eqb-true, eqb-false}
use Rattle.search.specs.Search.{pick, among}
use Rattle.search.proofs.Among.{among_snoc}
use Rattle.pool.specs.declared.Frame.{Frame}
use Rattle.pool.specs.Pool.{empty_frame, frame_at}
use Rattle.batch.specs.Batch.{clean_frame, cleaned, pages_of}

-- frame i after frame x was cleaned
one_cleaned : (fs : List Frame) (x i : ℕ) → frame_at (set fs x (clean_frame (frame_at fs x))) i ≡ pick (eqb x i) (clean_frame (frame_at fs i)) (frame_at fs i)
one_cleaned fs x i = go (eqb x i) refl
  where
    beyond : length fs ≤ x → frame_at (set fs x (clean_frame (frame_at fs x))) x ≡ clean_frame (frame_at fs x)
    beyond h =
        get_or-eq_default (set fs x (clean_frame (frame_at fs x))) empty_frame {n = x} (rw (length-set fs x (clean_frame (frame_at fs x))) h)
        ∙ ap clean_frame (sym (get_or-eq_default fs empty_frame {n = x} h))

    here : frame_at (set fs x (clean_frame (frame_at fs x))) x ≡ clean_frame (frame_at fs x)
    here = elim (dec_lt x (length fs)) [ yes l ↦ get_or-set_same fs x (clean_frame (frame_at fs x)) empty_frame l | no l ↦ beyond (omega arith) ]

    go : (t : Bool) → eqb x i ≡ t → frame_at (set fs x (clean_frame (frame_at fs x))) i ≡ pick t (clean_frame (frame_at fs i)) (frame_at fs i)
    go true e = subst (λ (k : ℕ). frame_at (set fs x (clean_frame (frame_at fs x))) k ≡ clean_frame (frame_at fs k)) (eqb-true x i e) here
    go false e = get_or-set_other fs x i (clean_frame (frame_at fs x)) empty_frame (λ q. eqb-false x i e (sym q))

-- the frames of the batch are clean, the others as they were
pub cleaned_at : (fs : List Frame) (xs : List ℕ) (i : ℕ) → frame_at (cleaned fs xs) i ≡ pick (among xs i) (clean_frame (frame_at fs i)) (frame_at fs i)
unfolding cleaned among
cleaned_at fs [] i = refl
cleaned_at fs (x ∷ xs) i =
    cleaned_at (set fs x (clean_frame (frame_at fs x))) xs i
    ∙ ap (λ (g : Frame). pick (among xs i) (clean_frame g) g) (one_cleaned fs x i)
    ∙ twice (eqb x i) (among xs i)
  where
    twice : (a b : Bool) → pick b (clean_frame (pick a (clean_frame (frame_at fs i)) (frame_at fs i))) (pick a (clean_frame (frame_at fs i)) (frame_at fs i)) ≡ pick (a || b) (clean_frame (frame_at fs i)) (frame_at fs i)
    twice true true = refl
    twice true false = refl
    twice false b = refl

-- nothing but dirtiness changes
pub cleaned_page : (fs : List Frame) (xs : List ℕ) (i : ℕ) → (frame_at (cleaned fs xs) i).page ≡ (frame_at fs i).page
cleaned_page fs xs i = ap (λ (g : Frame). g.page) (cleaned_at fs xs i) ∙ either (among xs i)
  where
    either : (b : Bool) → (pick b (clean_frame (frame_at fs i)) (frame_at fs i)).page ≡ (frame_at fs i).page
    either true = refl
    either false = refl

pub cleaned_length : (fs : List Frame) (xs : List ℕ) → length (cleaned fs xs) ≡ length fs
unfolding cleaned
cleaned_length fs [] = refl
cleaned_length fs (x ∷ xs) = cleaned_length (set fs x (clean_frame (frame_at fs x))) xs ∙ length-set fs x (clean_frame (frame_at fs x))

-- one more at the end
pub cleaned_snoc : (fs : List Frame) (xs : List ℕ) (i : ℕ) → set (cleaned fs xs) i (clean_frame (frame_at (cleaned fs xs) i)) ≡ cleaned fs (xs ++ (i ∷ []))
unfolding cleaned
cleaned_snoc fs [] i = refl
cleaned_snoc fs (x ∷ xs) i = cleaned_snoc (set fs x (clean_frame (frame_at fs x))) xs i

-- a frame that is cleaned after others might as well come before them
pub cleaned_first : (fs : List Frame) (xs : List ℕ) (v : ℕ) → cleaned fs (xs ++ (v ∷ [])) ≡ cleaned fs (v ∷ xs)
unfolding among
cleaned_first fs xs v =
    ext_get_or empty_frame (cleaned fs (xs ++ (v ∷ []))) (cleaned fs (v ∷ xs)) (cleaned_length fs (xs ++ (v ∷ [])) ∙ sym (cleaned_length fs (v ∷ xs)))
    (λ i _. cleaned_at fs (xs ++ (v ∷ [])) i
    ∙ ap (λ (b : Bool). pick b (clean_frame (frame_at fs i)) (frame_at fs i)) (among_snoc xs v i ∙ or_comm (among xs i) (eqb v i))
    ∙ sym (cleaned_at fs (v ∷ xs) i))

pub pages_length : (fs : List Frame) (xs : List ℕ) → length (pages_of fs xs) ≡ length xs
unfolding pages_of
pages_length fs xs = length-map xs (λ i. (frame_at fs i).page)

pub pages_snoc : (fs : List Frame) (xs : List ℕ) (i : ℕ) → pages_of fs (xs ++ (i ∷ [])) ≡ pages_of fs xs ++ ((frame_at fs i).page ∷ [])
unfolding pages_of
pages_snoc fs [] i = refl
pages_snoc fs (x ∷ xs) i = ap (λ (l : List ℕ). (frame_at fs x).page ∷ l) (pages_snoc fs xs i)

-- one store more, at the end of what is written
pub sets_snoc : (l : List ℕ) (i : ℕ) (vs : List ℕ) (v : ℕ) → sets l i (vs ++ (v ∷ [])) ≡ set (sets l i vs) (i + length vs) v
sets_snoc l i [] v = ap (λ (k : ℕ). set l k v) (sym (add-zero i))
sets_snoc l i (w ∷ vs) v = sets_snoc (set l i w) (suc i) vs v ∙ ap (λ (k : ℕ). set (sets (set l i w) (suc i) vs) k v) (suc-add i (length vs) ∙ sym (add-suc i (length vs)))

-- and one in front of it
pub set_sets : (l : List ℕ) (i k : ℕ) (vs : List ℕ) (v : ℕ) → i < k → set (sets l k vs) i v ≡ sets (set l i v) k vs
set_sets l i k [] v h = refl
set_sets l i k (w ∷ vs) v h =
    set_sets (set l k w) i (suc k) vs v (omega arith)
    ∙ ap (λ (m : List ℕ). sets m (suc k) vs) (set_comm l k i w v (λ q. absurd (omega (arith, q))))

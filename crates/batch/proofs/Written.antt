-- What is written: one frame, one more after others, one in front of them.
use mathlib.Core.Path.{◌≡◌, refl, ap, sym, ◌∙◌}
use mathlib.Core.List.{List, [], ◌∷◌, ◌++◌}
use Prim.Native.Nat.{ℕ, ◌+◌}
use native.Mathlib.Omega.{arith}
use native.Mathlib.Numerals.{add-one}
use lib.ListN.{length, set, length-append}
use lib.Seq.{sets, length-sets}
use Rattle.pool.specs.declared.Frame.{Frame}
use Rattle.pool.specs.Pool.{frame_at}
use Rattle.table.specs.Table.{frames_in}
use Rattle.batch.specs.Batch.{clean_frame, cleaned, pages_of}
use Rattle.batch.specs.ForCode.{Wrote}
use Rattle.batch.proofs.Cleaned.{cleaned_page, cleaned_snoc, cleaned_first, pages_length, pages_snoc, sets_snoc, set_sets}

-- nothing yet
pub wrote_none : (t l : List ℕ) (at : ℕ) → Wrote (frames_in t) [] at 0 t l l
unfolding cleaned pages_of
wrote_none t l at = record { frames = refl; counted = refl; list = refl }

-- the list is as long as it was
pub wrote_length : (fs : List Frame) (xs : List ℕ) (at count : ℕ) (t l m : List ℕ) → Wrote fs xs at count t l m → length m ≡ length l
wrote_length fs xs at count t l m w = ap length w.list ∙ length-sets l at (pages_of fs xs)

-- one frame, as the code writes it
pub wrote_one : (i at : ℕ) (fr : Frame) (t t' l : List ℕ) → fr ≡ frame_at (frames_in t) i → frames_in t' ≡ set (frames_in t) i (clean_frame (frame_at (frames_in t) i))
    → Wrote (frames_in t) (i ∷ []) at 1 t' l (set l at fr.page)
unfolding cleaned pages_of
wrote_one i at fr t t' l e d = record { frames = d; counted = refl; list = rw e }

-- one frame beside others: which it was, and at which place
module _ (fs : List Frame) (xs : List ℕ) (i at to count : ℕ) (t t' l m m' : List ℕ) (w : Wrote fs xs at count t l m) (o : Wrote (frames_in t) (i ∷ []) to 1 t' m m') where
  and_cleaned : frames_in t' ≡ cleaned fs (xs ++ (i ∷ []))
  unfolding cleaned
  and_cleaned = o.frames ∙ ap (λ (x : List Frame). set x i (clean_frame (frame_at x i))) w.frames ∙ cleaned_snoc fs xs i

  and_put : m' ≡ set (sets l at (pages_of fs xs)) to (frame_at fs i).page
  unfolding pages_of
  and_put = o.list ∙ ap (λ (x : List ℕ). set x to (frame_at (frames_in t) i).page) w.list ∙ ap (set (sets l at (pages_of fs xs)) to) (ap (λ (x : List Frame). (frame_at x i).page) w.frames ∙ cleaned_page fs xs i)

  pub wrote_more : to ≡ at + count → Wrote fs (xs ++ (i ∷ [])) at (count + 1) t' l m'
  wrote_more e = record {
    frames = and_cleaned;
    counted = ap (λ (k : ℕ). k + 1) w.counted ∙ sym (length-append xs (i ∷ []));
    list = and_put
        ∙ ap (λ (k : ℕ). set (sets l at (pages_of fs xs)) k (frame_at fs i).page) (e ∙ ap (λ (k : ℕ). at + k) (w.counted ∙ sym (pages_length fs xs)))
        ∙ sym (ap (sets l at) (pages_snoc fs xs i) ∙ sets_snoc l at (pages_of fs xs) (frame_at fs i).page);
  }

  pub wrote_first : at ≡ to + 1 → Wrote fs (i ∷ xs) to (count + 1) t' l m'
  unfolding pages_of
  wrote_first e = record {
    frames = and_cleaned ∙ cleaned_first fs xs i;
    counted = ap (λ (k : ℕ). k + 1) w.counted ∙ add-one (length xs);
    list = and_put ∙ set_sets l to at (pages_of fs xs) (frame_at fs i).page (omega arith) ∙ ap (λ (k : ℕ). sets (set l to (frame_at fs i).page) k (pages_of fs xs)) (e ∙ add-one to);
  }

-- Numbers stored into a frame's fields: what stands in the table then.
use mathlib.Core.Path.{◌≡◌, refl, ap, ◌∙◌}
use mathlib.Core.Logic.{◌≢◌}
use mathlib.Core.List.{List, [], ◌∷◌}
use Prim.Native.Nat.{ℕ, zero, suc, ◌+◌, ◌*◌, ◌≤◌, ◌<◌}
use native.Mathlib.Omega.{arith}
use lib.ListN.{length, get_or, set, length-set}
use lib.Seq.{get_or-set_same, get_or-set_other}
use Rattle.table.specs.Table.{table_length}

-- the place of field c of frame i
abbrev pub place : ℕ → ℕ → ℕ
place zero i = i
place (suc c) i = i + 128 * suc c

place_is : (c i : ℕ) → place c i ≡ i + 128 * c
place_is zero i = omega arith
place_is (suc c) i = refl

-- field c of frame i, and the fields after it, become the numbers
abbrev pub stores : List ℕ → ℕ → List ℕ → ℕ → List ℕ
stores t i [] c = t
stores t i (v ∷ vs) c = stores (set t (place c i) v) i vs (suc c)

-- the places of two frames, or of two fields of one, differ
frames_apart : (i j c d : ℕ) → i < 128 → j < 128 → j ≢ i → place d j ≢ place c i
frames_apart i j c d l m q e = q (let a = place_is c i in let b = place_is d j in omega arith)

fields_apart : (i c d : ℕ) → c ≢ d → place d i ≢ place c i
fields_apart i c d q e = q (let a = place_is c i in let b = place_is d i in omega arith)

module _ (i : ℕ) (l : i < 128) where
  -- no other frame's field changes
  pub other_frame : (vs : List ℕ) (t : List ℕ) (c j d : ℕ) → j < 128 → j ≢ i → get_or (stores t i vs c) (place d j) 0 ≡ get_or t (place d j) 0
  other_frame [] t c j d m q = refl
  other_frame (v ∷ vs) t c j d m q = other_frame vs (set t (place c i) v) (suc c) j d m q ∙ get_or-set_other t (place c i) (place d j) v 0 (frames_apart i j c d l m q)

  -- and no other field of frame i
  pub other_field : (vs : List ℕ) (t : List ℕ) (c d : ℕ) → ((k : ℕ) → k < length vs → c + k ≢ d) → get_or (stores t i vs c) (place d i) 0 ≡ get_or t (place d i) 0
  other_field [] t c d q = refl
  other_field (v ∷ vs) t c d q =
      other_field vs (set t (place c i) v) (suc c) d (λ k m e. q (suc k) (omega arith) (omega arith))
      ∙ get_or-set_other t (place c i) (place d i) v 0 (fields_apart i c d (λ e. q 0 (omega arith) (omega arith)))

  -- field c + k becomes the k-th number
  pub own_field : (vs : List ℕ) (t : List ℕ) (c k d : ℕ) → length t ≡ table_length → k < length vs → c + length vs ≤ 8 → c + k ≡ d → get_or (stores t i vs c) (place d i) 0 ≡ get_or vs k 0
  own_field [] t c k d n m b e = absurd (omega arith)
  own_field (v ∷ vs) t c zero d n m b e =
      let same : d ≡ c = omega arith in
      let a = place_is c i in
      ap (λ (x : ℕ). get_or (stores (set t (place c i) v) i vs (suc c)) (place x i) 0) same
      ∙ other_field vs (set t (place c i) v) (suc c) c (λ k m e. omega arith) ∙ get_or-set_same t (place c i) v 0 (omega arith)
  own_field (v ∷ vs) t c (suc k) d n m b e = own_field vs (set t (place c i) v) (suc c) k d (length-set t (place c i) v ∙ n) (omega arith) (omega arith) (omega arith)

-- A run of places filled from a list: what stands in it, before it and after it.
use mathlib.Core.Path.{◌≡◌, ap, sym, ◌∙◌}
use mathlib.Core.List.{List, ◌++◌}
use Prim.Native.Nat.{ℕ, ◌+◌, ◌-◌, ◌≤◌, ◌<◌}
use native.Mathlib.Omega.{arith}
use lib.ListN.{length, get_or, take, drop, get_or-append}
use lib.Seq.{paste, drop-paste, length_paste_head, length-take-le, get_or-drop, get_or-take, get_or-append-add}

module _ (a : List ℕ) (at : ℕ) (s : List ℕ) (n : ℕ) (room : at + n ≤ length a) (some : n ≤ length s) where
  head_long : length (take at a ++ take n s) ≡ at + n
  head_long = length_paste_head a at s n (omega arith) some

  pub paste_in : (j : ℕ) → j < n → get_or (paste a at s n) (at + j) 0 ≡ get_or s j 0
  paste_in j l =
      get_or-append (take at a ++ take n s) (drop (at + n) a) 0 (at + j) (rw head_long (omega arith))
      ∙ ap (λ (k : ℕ). get_or (take at a ++ take n s) (k + j) 0) (sym (length-take-le at a (omega arith)))
      ∙ get_or-append-add (take at a) (take n s) j 0
      ∙ get_or-take n s j 0 l

  pub paste_before : (k : ℕ) → k < at → get_or (paste a at s n) k 0 ≡ get_or a k 0
  paste_before k l =
      get_or-append (take at a ++ take n s) (drop (at + n) a) 0 k (rw head_long (omega arith))
      ∙ get_or-append (take at a) (take n s) 0 k (rw (length-take-le at a (omega arith)) l)
      ∙ get_or-take at a k 0 l

  pub paste_after : (k : ℕ) → at + n ≤ k → get_or (paste a at s n) k 0 ≡ get_or a k 0
  paste_after k l =
      let e : at + n + (k - (at + n)) ≡ k = omega arith in
      ap (λ (x : ℕ). get_or (paste a at s n) x 0) (sym e)
      ∙ sym (get_or-drop (at + n) (paste a at s n) (k - (at + n)) 0)
      ∙ ap (λ (l : List ℕ). get_or l (k - (at + n)) 0) (drop-paste a at s n (omega arith) some)
      ∙ get_or-drop (at + n) a (k - (at + n)) 0
      ∙ ap (λ (x : ℕ). get_or a x 0) e

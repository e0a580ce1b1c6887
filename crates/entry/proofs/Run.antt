-- Laws of lists one after the other.
use mathlib.Core.Path.{◌≡◌, refl, ap, sym, ◌∙◌}
use mathlib.Core.List.{List, [], ◌∷◌, ◌++◌, append_assoc}
use Prim.Native.Nat.{ℕ, zero, suc, ◌+◌, ◌*◌, ◌≤◌, ◌<◌}
use native.Mathlib.Omega.{arith}
use native.Mathlib.Numerals.{add-one}
use lib.ListN.{length, get_or, take, drop, length-append, length-drop, take-append-drop}
use lib.Seq.{sets, sets-eq, take_at, drop_at, take-add, take-suc, get_or-take, get_or-drop, ext_get_or, length-take-le}
use Rattle.word.proofs.Laws.{sets_append}
use Rattle.search.proofs.Least.{last_or_below}
use Rattle.entry.specs.Run.{run_of}

module _ {ℓ} {A : Type ℓ} (f : ℕ → List A) where
  pub run_none : run_of f 0 ≡ []
  unfolding run_of
  run_none = refl

  pub run_more : (n : ℕ) → run_of f (n + 1) ≡ run_of f n ++ f n
  unfolding run_of
  run_more n = ap (run_of f) (add-one n)

  -- each of one length
  module _ (w m : ℕ) (long : (i : ℕ) → i < m → length (f i) ≡ w) where
    pub run_length : (n : ℕ) → n ≤ m → length (run_of f n) ≡ n * w
    unfolding run_of
    run_length zero l = omega arith
    run_length (suc n) l = length-append (run_of f n) (f n) ∙ rw (run_length n (omega arith), long n (omega arith)) (omega arith)

    -- the i-th of them, whatever follows
    pub run_at : (n : ℕ) → n ≤ m → (i : ℕ) → i < n → (ys : List A) → take w (drop (i * w) (run_of f n ++ ys)) ≡ f i
    unfolding run_of
    run_at zero l i h ys = absurd (omega arith)
    run_at (suc n) l i h ys =
        last_or_below i n h
        (λ e. rw (e, append_assoc (run_of f n) (f n) ys, drop_at (run_of f n) (f n ++ ys) (n * w) (run_length n (omega arith))) (take_at (f n) ys w (long n (omega arith))))
        (λ b. rw (append_assoc (run_of f n) (f n) ys) (run_at n (omega arith) i b (f n ++ ys)))

    -- one more is stored behind those that are
    pub run_stored : (b n at : ℕ) (l₀ l l' : List A) → n < m → l ≡ sets l₀ b (run_of f n) → at ≡ b + n * w → l' ≡ sets l at (f n) → l' ≡ sets l₀ b (run_of f (n + 1))
    run_stored b n at l₀ l l' h e p e' =
        rw (e', e, p, run_more n)
        (sym (sets_append (run_of f n) (f n) l₀ b ∙ ap (λ (k : ℕ). sets (sets l₀ b (run_of f n)) (b + k) (f n)) (run_length n (omega arith))))

-- what is made of the same lists is the same
pub run_same {ℓ} : {A : Type ℓ} (f g : ℕ → List A) (n : ℕ) → ((i : ℕ) → i < n → f i ≡ g i) → run_of f n ≡ run_of g n
unfolding run_of
run_same f g zero h = refl
run_same f g (suc n) h = rw (run_same f g n (λ i l. h i (omega arith)), h n (omega arith))

module _ {ℓ} {A : Type ℓ} where
  -- the parts of a list, one after the other, are its front
  pub run_parts : (l : List A) (w n : ℕ) → run_of (λ i. take w (drop (i * w) l)) n ≡ take (n * w) l
  unfolding run_of
  run_parts l w zero = let e : 0 ≡ 0 * w = omega arith in ap (λ (m : ℕ). take m l) e
  run_parts l w (suc n) = let e : n * w + w ≡ suc n * w = omega arith in rw (run_parts l w n, ← take-add (n * w) w l, e)

  pub run_ones : (l : List A) (d : A) (n : ℕ) → n ≤ length l → run_of (λ i. get_or l i d ∷ []) n ≡ take n l
  unfolding run_of
  run_ones l d zero h = refl
  run_ones l d (suc n) h = rw (run_ones l d n (omega arith)) (sym (take-suc l n d (omega arith)))

  -- the element of a list at i stands behind the first i
  pub one_at : (l : List A) (i : ℕ) (x d : A) → take 1 (drop (i * 1) l) ≡ x ∷ [] → get_or l i d ≡ x
  one_at l i x d e =
      let n : i * 1 + 0 ≡ i = omega arith in
      ap (λ (k : ℕ). get_or l k d) (sym n) ∙ sym (get_or-drop (i * 1) l 0 d) ∙ sym (get_or-take 1 (drop (i * 1) l) 0 d (omega arith)) ∙ ap (λ (m : List A). get_or m 0 d) e

  -- two lists that agree from n on
  pub rest_same : (d : A) (k l : List A) (n : ℕ) → length k ≡ length l → ((i : ℕ) → n ≤ i → i < length l → get_or k i d ≡ get_or l i d) → drop n k ≡ drop n l
  rest_same d k l n e f =
      let a = length-drop n k in
      let b = length-drop n l in
      ext_get_or d (drop n k) (drop n l) (omega arith) (λ i h. get_or-drop n k i d ∙ f (n + i) (omega arith) (omega arith) ∙ sym (get_or-drop n l i d))

  -- the front of a list, stored in one that agrees with it from there on
  pub front_stored : (k l : List A) (n : ℕ) → length k ≡ length l → n ≤ length l → drop n k ≡ drop n l → sets k 0 (take n l) ≡ l
  front_stored k l n e h f =
      let m = length-take-le n l h in
      let z : 0 + length (take n l) ≡ n = omega arith in
      sets-eq (take n l) k 0 (omega arith) ∙ ap (λ (j : ℕ). take n l ++ drop j k) z ∙ ap (λ (r : List A). take n l ++ r) f ∙ take-append-drop n l

  -- a run that is stored at the front stands there, and what was behind it stays
  pub front_run : (k xs : List A) (n : ℕ) → length xs ≡ n → n ≤ length k → sets k 0 xs ≡ xs ++ drop n k
  front_run k xs n e h = let z : 0 + length xs ≡ n = omega arith in sets-eq xs k 0 (omega arith) ∙ ap (λ (m : ℕ). xs ++ drop m k) z

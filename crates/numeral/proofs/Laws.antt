-- Laws of decimal numbers: what one character more changes.
use mathlib.Core.Path.{◌≡◌, refl, sym, ap, ◌∙◌}
use mathlib.Core.Bool.{Bool, true, false, not, ◌&&◌, and-true, and_assoc}
use Rattle.std.specs.Bool.{◌==◌, then_some}
use Rattle.search.specs.Search.{pick}
use mathlib.Core.List.{List, [], ◌∷◌, ◌++◌}
use Rattle.std.specs.Prelude.{Some, None}
use Prim.Native.Nat.{ℕ, ◌+◌, ◌*◌, ◌-◌, ◌<◌, min}
use native.Mathlib.Numerals.{add-one}
use native.Mathlib.Omega.{arith}
use lib.ListN.{length, get_or, take}
use lib.Seq.{take-suc}
use lib.Dec.{ltb}
use Rattle.std.proofs.lemmas.Bool.Decides.{nat_tests}
use Rattle.numeral.specs.Numeral.{number_limit, is_digit, all_digits, value_after, numeral_of}

pub all_snoc : (l : List ℕ) (c : ℕ) → all_digits (l ++ (c ∷ [])) ≡ (all_digits l && is_digit c)
all_snoc [] c = and-true (is_digit c)
all_snoc (x ∷ l) c = rw (all_snoc l c) (sym (and_assoc (is_digit x) (all_digits l) (is_digit c)))

pub value_snoc : (l : List ℕ) (n c : ℕ) → value_after n (l ++ (c ∷ [])) ≡ value_after n l * 10 + (c - 48)
value_snoc [] n c = refl
value_snoc (x ∷ l) n c = value_snoc l (n * 10 + (x - 48)) c

-- a turn of the loop over the characters
pub digits_more : (l : List ℕ) (i : ℕ) → i < length l → all_digits (take (i + 1) l) ≡ (all_digits (take i l) && is_digit (get_or l i 0))
digits_more l i h = rw (add-one, take-suc l i 0 h) (all_snoc (take i l) (get_or l i 0))

-- cut at the limit before or after, it is the same
cut_twice : (v d : ℕ) → min (min v number_limit * 10 + d) number_limit ≡ min (v * 10 + d) number_limit
cut_twice v d = omega arith

pub value_more : (l : List ℕ) (i n m : ℕ) → i < length l → n ≡ min (value_after 0 (take i l)) number_limit → m ≡ min (n * 10 + (get_or l i 0 - 48)) number_limit
    → m ≡ min (value_after 0 (take (i + 1) l)) number_limit
value_more l i n m h e f =
    let v = value_after 0 (take i l) in
    f ∙ ap (λ (x : ℕ). min (x * 10 + (get_or l i 0 - 48)) number_limit) e ∙ cut_twice v (get_or l i 0 - 48)
    ∙ sym (rw (add-one, take-suc l i 0 h, value_snoc (take i l) 0 (get_or l i 0)))

-- one character or more
some_text : (s : List ℕ) → not (length s == 0) ≡ ltb 0 (length s)
some_text [] = refl
some_text (c ∷ s) = grind (arith, nat_tests)

some_picked : (t : Bool) (n : ℕ) → then_some t n ≡ pick t (Some n) None
some_picked true n = refl
some_picked false n = refl

-- the answer
pub answer_is : (s : List ℕ) (d e : Bool) (n : ℕ) → d ≡ all_digits s → e ≡ (length s == 0) → n ≡ min (value_after 0 s) number_limit → then_some (d && not e) n ≡ numeral_of s
unfolding numeral_of
answer_is s d e n h k f = rw (h, k, f, some_text s) (some_picked (all_digits s && ltb 0 (length s)) (min (value_after 0 s) number_limit))

-- Laws of words and lines.
use mathlib.Core.Path.{◌≡◌, refl, sym, ◌∙◌}
use mathlib.Core.Bool.{true, false}
use mathlib.Core.List.{List, [], ◌∷◌}
use Prim.Native.Nat.{ℕ, zero, suc, ◌+◌, ◌-◌}
use native.Mathlib.Numerals.{add-one}
use native.Mathlib.Omega.{arith}
use lib.Dec.{eqb}
use lib.ListN.{length, take, drop, length-append, length-drop}
use lib.Seq.{take_all}
use lib.Pointwise.{pointwise}
use Rattle.std.proofs.lemmas.Bool.Decides.{nat_tests}
use Rattle.search.specs.Search.{pick}
use Rattle.refusal.specs.Refusals.{or_else}
use Rattle.numeral.specs.Numeral.{numeral_of}
use Rattle.text.specs.declared.Line.{Line}
use Rattle.text.specs.Text.{word_of, begins_with, as_kind, record_line, is_bad, first_bad, line_numbered, numbers_in}
use Rattle.text.specs.ForCode.{number_in}

-- ---- words

begins_is : (ws l : List ℕ) → begins_with ws l ≡ pointwise eqb (take (length ws) l) ws
begins_is [] l = refl
begins_is (w ∷ ws) [] = refl
begins_is (w ∷ ws) (c ∷ l) = rw (begins_is ws l, eqb_sym w c)
  where
    eqb_sym : (a b : ℕ) → eqb a b ≡ eqb b a
    eqb_sym a b = grind (arith, nat_tests)

-- a line that begins with a kind's word is that kind's record, and another is what it is otherwise
pub begun : (kind : ℕ) (line rest : List ℕ) (otherwise : Line) → pointwise eqb (take (length (word_of kind)) line) (word_of kind) ≡ true → rest ≡ drop (length (word_of kind)) line
    → as_kind kind line otherwise ≡ record_line kind (numeral_of rest)
begun kind line rest otherwise b r = rw (begins_is (word_of kind) line, b, r)

pub not_begun : (kind : ℕ) (line : List ℕ) (otherwise : Line) → pointwise eqb (take (length (word_of kind)) line) (word_of kind) ≡ false → as_kind kind line otherwise ≡ otherwise
not_begun kind line otherwise b = rw (begins_is (word_of kind) line, b)

-- what stands from a place on
pub rest_whole : (l : List ℕ) (at : ℕ) → drop at l ≡ take (length l - at) (drop at l)
rest_whole l at = sym (take_all (length l - at) (drop at l) (omega (arith, length-drop at l)))

-- ---- what is found in lines

or_assoc : (a b c : ℕ) → or_else (or_else a b) c ≡ or_else a (or_else b c)
or_assoc zero b c = refl
or_assoc (suc a) b c = refl

-- a line's number is kept
pub number_kept : (n : ℕ) → number_in (line_numbered n) ≡ n
number_kept zero = refl
number_kept (suc n) = refl

pub bad_more : (all rest : List Line) (line : Line) (bad n now : ℕ) → first_bad 0 all ≡ or_else bad (first_bad n (line ∷ rest)) → now ≡ or_else bad (pick (is_bad line) (n + 1) 0)
    → first_bad 0 all ≡ or_else now (first_bad (n + 1) rest)
unfolding first_bad
bad_more all rest line bad n now e f = e ∙ sym (rw (f, add-one) (or_assoc bad (pick (is_bad line) (suc n) 0) (first_bad (suc n) rest)))

pub bad_all : (all lines : List Line) (bad n : ℕ) → lines ≡ [] → first_bad 0 all ≡ or_else bad (first_bad n lines) → bad ≡ first_bad 0 all
unfolding first_bad
bad_all all lines zero n e h = sym (h ∙ rw e)
bad_all all lines (suc b) n e h = sym h

pub numbers_more : (f : Line → List ℕ) (line : Line) (rest : List Line) → length (numbers_in f (line ∷ rest)) ≡ length (f line) + length (numbers_in f rest)
unfolding numbers_in
numbers_more f line rest = length-append (f line) (numbers_in f rest)

pub numbers_none : (f : Line → List ℕ) (lines : List Line) → lines ≡ [] → length (numbers_in f lines) ≡ 0
unfolding numbers_in
numbers_none f lines e = rw e

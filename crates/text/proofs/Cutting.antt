-- The lines of a text, as they are cut off one after the other.
use mathlib.Core.Path.{◌≡◌, refl, sym, ap, ◌∙◌}
use mathlib.Core.Bool.{Bool, true, false, not}
use mathlib.Core.List.{List, [], ◌∷◌, map}
use Prim.Native.Nat.{ℕ, suc, ◌+◌, ◌-◌, ◌≤◌, ◌<◌}
use native.Mathlib.Omega.{arith}
use lib.Dec.{eqb, ltb}
use lib.ListN.{length, length-map, take, drop, drop_of_length-le}
use lib.Seq.{take_all}
use borrow.Author.Tests.{ltb-false}
use Rattle.std.specs.Prelude.{Some, None, cond, nat_lt}
use Rattle.std.specs.List.{position, position_or_len}
use Rattle.std.proofs.lemmas.List.Sums.{prefix_len-le-length}
use Rattle.std.proofs.lemmas.List.Quantifiers.{position-Some}
use Rattle.text.specs.declared.Line.{Line}
use Rattle.text.specs.Text.{line_feed, before, lines_of, line_of, lines_in}
use Rattle.text.proofs.Laws.{rest_whole}

abbrev feed : ℕ → Bool
feed c = eqb c line_feed

grown : (c : ℕ) (s : List ℕ) (k : ℕ) → (c ∷ take k s) ∷ lines_of (drop (k + 1) s) ≡ take (1 + k) (c ∷ s) ∷ lines_of (drop (1 + k + 1) (c ∷ s))
grown c s k = let e : 1 + k ≡ suc k = omega arith in let f : suc k + 1 ≡ suc (k + 1) = omega arith in rw (e, f)

lines_first : (s : List ℕ) → 0 < length s → lines_of s ≡ take (position_or_len feed s) s ∷ lines_of (drop (position_or_len feed s + 1) s)
unfolding lines_of
lines_first [] h = absurd (omega arith)
lines_first (c ∷ []) h = go (eqb c line_feed) refl
  where
    go : (b : Bool) → eqb c line_feed ≡ b → lines_of (c ∷ []) ≡ take (position_or_len feed (c ∷ [])) (c ∷ []) ∷ lines_of (drop (position_or_len feed (c ∷ []) + 1) (c ∷ []))
    go true e = rw e
    go false e = rw e
lines_first (c ∷ (d ∷ s)) h = go (eqb c line_feed) refl (lines_first (d ∷ s) (omega arith))
  where
    go : (b : Bool) → eqb c line_feed ≡ b → lines_of (d ∷ s) ≡ take (position_or_len feed (d ∷ s)) (d ∷ s) ∷ lines_of (drop (position_or_len feed (d ∷ s) + 1) (d ∷ s))
        → lines_of (c ∷ (d ∷ s)) ≡ take (position_or_len feed (c ∷ (d ∷ s))) (c ∷ (d ∷ s)) ∷ lines_of (drop (position_or_len feed (c ∷ (d ∷ s)) + 1) (c ∷ (d ∷ s)))
    go true e i = rw e
    go false e i = rw (e, i) (grown c (d ∷ s) (position_or_len feed (d ∷ s)))

-- what `next` leaves after a line
abbrev pub behind : ℕ → List ℕ → List ℕ
behind n s = take (length s - n) (drop n s)

pub line_then : (s : List ℕ) (end : ℕ) → Some end ≡ position feed s → lines_of s ≡ take end s ∷ lines_of (behind (end + 1) s)
line_then s end e =
    let f = position-Some feed s end 0 (sym e) in
    let n : position_or_len feed s ≡ end = at_place (nat_lt (position_or_len feed s) (length s)) (position_or_len feed s) e in
    let whole : behind (end + 1) s ≡ drop (end + 1) s = sym (rest_whole s (end + 1)) in
    lines_first s (omega arith) ∙ rw (n, whole)
  where
    at_place : (b : Bool) (n : ℕ) → Some end ≡ cond b (Some n) None → n ≡ end
    at_place true n h = cc
    at_place false n h = cc

pub line_last : (s : List ℕ) → (length s ≡ 0 → ⊥) → None ≡ position feed s → lines_of s ≡ s ∷ lines_of (behind (length s) s)
line_last s h e =
    let few = prefix_len-le-length (λ (c : ℕ). not (feed c)) s in
    let n : position_or_len feed s ≡ length s = at_end (ltb (position_or_len feed s) (length s)) refl e in
    let none : behind (length s) s ≡ [] = sym (rest_whole s (length s)) ∙ drop_of_length-le s {i = length s} (omega arith) in
    let over : drop (length s + 1) s ≡ [] = drop_of_length-le s {i = length s + 1} (omega arith) in
    lines_first s (omega arith) ∙ rw (n, take_all (length s) s (omega arith), none, over)
  where
    at_end : (b : Bool) → ltb (position_or_len feed s) (length s) ≡ b → None ≡ cond b (Some (position_or_len feed s)) None → position_or_len feed s ≡ length s
    at_end true t h = cc
    at_end false t h = let k = ltb-false _ _ t in let few = prefix_len-le-length (λ (c : ℕ). not (feed c)) s in omega arith

pub lines_none : (s : List ℕ) → length s ≡ 0 → lines_of s ≡ []
unfolding lines_of
lines_none [] h = refl
lines_none (c ∷ s) h = absurd (omega arith)

-- no more lines than characters
pub lines_few : (s : List ℕ) → length (lines_of s) ≤ length s
unfolding lines_of
lines_few [] = omega arith
lines_few (c ∷ s) = go (eqb c line_feed) refl (lines_few s)
  where
    go : (b : Bool) → eqb c line_feed ≡ b → length (lines_of s) ≤ length s → length (lines_of (c ∷ s)) ≤ length (c ∷ s)
    go true e i = rw e (omega arith)
    go false e i = rw e (more (lines_of s) i)
      where
        more : (ls : List (List ℕ)) → length ls ≤ length s → length (before c ls) ≤ length (c ∷ s)
        more [] i = omega arith
        more (l ∷ ls) i = omega arith

pub lines_fit : (s : List ℕ) → length (lines_in s) ≤ length s
unfolding lines_in
lines_fit s = let few = lines_few s in let same = length-map (lines_of s) line_of in omega arith

-- a line read, and the end of the lines
pub read_more : (s t line : List ℕ) (read : Line) → lines_of s ≡ line ∷ lines_of t → read ≡ line_of line → lines_in s ≡ read ∷ lines_in t
unfolding lines_in
read_more s t line read e r = ap (λ (ls : List (List ℕ)). map line_of ls) e ∙ rw r

pub read_all : (s : List ℕ) → lines_of s ≡ [] → lines_in s ≡ []
unfolding lines_in
read_all s e = rw e

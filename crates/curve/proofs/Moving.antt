-- A page that comes to the front of the room: the others go down place by place, and the first of the room are the stack again.
use mathlib.Core.Path.{◌≡◌, refl, ap, sym, ◌∙◌}
use mathlib.Core.Bool.{true}
use mathlib.Core.List.{List, [], ◌∷◌, ◌++◌}
use Prim.Native.Nat.{ℕ, zero, suc, ◌+◌, ◌-◌, ◌≤◌, ◌<◌, min}
use native.Mathlib.Omega.{arith}
use native.Mathlib.Decide.{dec_lt}
use lib.ListN.{length, get_or, set, take, drop, length-append, length-take, length-drop}
use lib.Seq.{take_all, length-take-le, take_at, drop_at, take-take, take-add, take-append-add, get_or-take}
use lib.Dec.{eqb}
use borrow.Author.Tests.{ne_eqb, eqb-true, eqb-false}
use Rattle.std.specs.Prelude.{Option, Some, None}
use Rattle.std.specs.List.{copy_within}
use Rattle.search.specs.ForCode.{past}
use Rattle.distance.specs.Recent.{touched}
use Rattle.distance.specs.ForCode.{place_in}
use Rattle.distance.proofs.Stack.{by_test, without_absent}
use Rattle.distance.proofs.Places.{once_apart, place_nowhere, place_without}
use Rattle.curve.specs.ForCode.{Stands, moved_up, left_by, deepened, Used}

-- one page stands at one place alone
pub one_stands : (room : List ℕ) (depth page : ℕ) → Stands room depth → (i j : ℕ) → i < depth → j < i
    → eqb (get_or room i 0) page ≡ true → eqb (get_or room j 0) page ≡ true → ⊥
one_stands room depth page s i j l m a b =
    let few = s.few in
    let z = s.size in
    once_apart (take depth room) s.once i j (rw (length-take-le depth room (omega arith)) l) m
    (get_or-take depth room j 0 (omega arith) ∙ eqb-true (get_or room j 0) page b ∙ sym (eqb-true (get_or room i 0) page a) ∙ sym (get_or-take depth room i 0 l))

-- the first d go one place further down, and a page stands in front of them
pub copied_down : (l : List ℕ) (d page : ℕ) → d < length l → set (copy_within l 0 d 1) 0 page ≡ moved_up l d page
copied_down [] d page h = absurd (omega arith)
copied_down (y ∷ ys) d page h = let whole : d - 0 ≡ d = omega arith in let next : 1 + d ≡ suc d = omega arith in rw (whole, next)

-- the d first of the room in front of what stands behind place d, cut
front_of : (a : List ℕ) (d m : ℕ) → d ≤ m → suc m ≤ length a → take m (take d a ++ drop (suc d) a) ≡ take d (take (suc m) a) ++ drop (suc d) (take (suc m) a)
front_of a d m l h =
    let few = length-take-le d a (omega arith) in
    let e : d + (m - d) ≡ m = omega arith in
    let s : suc d + (m - d) ≡ suc m = omega arith in
    let cut : drop (suc d) (take (suc m) a) ≡ take (m - d) (drop (suc d) a) =
    ap (λ (k : ℕ). drop (suc d) (take k a)) (sym s) ∙ ap (drop (suc d)) (take-add (suc d) (m - d) a)
    ∙ drop_at (take (suc d) a) (take (m - d) (drop (suc d) a)) (suc d) (length-take-le (suc d) a (omega arith)) in
    ap (λ (k : ℕ). take k (take d a ++ drop (suc d) a)) (sym e)
    ∙ ap (λ (k : ℕ). take (k + (m - d)) (take d a ++ drop (suc d) a)) (sym few)
    ∙ take-append-add (take d a) (drop (suc d) a) (m - d)
    ∙ ap (λ (q : List ℕ). take d a ++ q) (sym cut)
    ∙ ap (λ (q : List ℕ). q ++ drop (suc d) (take (suc m) a)) (sym (take-take d (suc m) a (omega arith)))

module _ (a : List ℕ) (x : ℕ) (z : length a ≡ 128) where
  -- a page that stood at place d
  from_place : (d m : ℕ) → suc m ≤ 128 → place_in (take (suc m) a) x ≡ Some d → take (suc m) (moved_up a d x) ≡ take 128 (touched x (take (suc m) a))
  from_place d m l e =
      let w = place_without (take (suc m) a) x d e in
      let few = length-take-le (suc m) a (omega arith) in
      let b = w.0 in
      let r = take d (take (suc m) a) ++ drop (suc d) (take (suc m) a) in
      let whole : take m (take d a ++ drop (suc d) a) ≡ r = front_of a d m (omega arith) (omega arith) in
      let cut = length-take m (take d a ++ drop (suc d) a) in
      let same = ap length whole in
      ap (λ (q : List ℕ). x ∷ q) whole
      ∙ sym (ap (λ (q : List ℕ). x ∷ q) (take_all 127 r (omega arith)))
      ∙ ap (λ (q : List ℕ). take 128 (x ∷ q)) (sym w.1)

  -- a page that was not there
  from_below : (depth : ℕ) → depth ≤ 128 → place_in (take depth a) x ≡ None
      → take (suc (min depth 127)) (moved_up a (min depth 127) x) ≡ take 128 (touched x (take depth a))
  from_below depth l e =
      let m = min depth 127 in
      let few = length-take-le m a (omega arith) in
      let gone = without_absent x (take depth a) (place_nowhere (take depth a) x e) in
      ap (λ (q : List ℕ). x ∷ q) (take_at (take m a) (drop (suc m) a) m few ∙ fewer)
      ∙ ap (λ (q : List ℕ). take 128 (x ∷ q)) (sym gone)
    where
      fewer : take (min depth 127) a ≡ take 127 (take depth a)
      fewer = elim (dec_lt depth 128) [
        | yes h ↦ (let k : min depth 127 ≡ depth = omega arith in
            rw k (sym (take_all 127 (take depth a) (let n = length-take depth a in omega arith))))
        | no h ↦ (let k : min depth 127 ≡ 127 = omega (arith, h) in rw k (sym (take-take 127 depth a (omega (arith, h)))))
      ]

  pub moved_stack : (depth found : ℕ) → depth ≤ 128 → found ≡ past (place_in (take depth a) x)
      → take (deepened found depth) (moved_up a (left_by found depth) x) ≡ take 128 (touched x (take depth a))
  moved_stack depth found l e = go (place_in (take depth a) x) refl
    where
      some : (m d : ℕ) → suc m ≤ 128 → place_in (take (suc m) a) x ≡ Some d → found ≡ d + 1
          → take (deepened found (suc m)) (moved_up a (left_by found (suc m)) x) ≡ take 128 (touched x (take (suc m) a))
      some m d h p q = let k : d + 1 - 1 ≡ d = omega arith in rw (q, ne_eqb (d + 1) 0 (λ w. omega arith), k) (from_place d m h p)

      at : (depth d : ℕ) → depth ≤ 128 → place_in (take depth a) x ≡ Some d → found ≡ d + 1
          → take (deepened found depth) (moved_up a (left_by found depth) x) ≡ take 128 (touched x (take depth a))
      at zero d h p q = let b = (place_without (take 0 a) x d p).0 in absurd (omega arith)
      at (suc m) d h p q = some m d h p q

      go : (r : Option ℕ) → place_in (take depth a) x ≡ r → take (deepened found depth) (moved_up a (left_by found depth) x) ≡ take 128 (touched x (take depth a))
      go (Some d) q = at depth d l q (e ∙ ap past q)
      go None q =
          let zero-found : found ≡ 0 = e ∙ ap past q in
          let k : min (depth + 1) 128 ≡ suc (min depth 127) = omega arith in
          rw (zero-found, k) (from_below depth l q)

-- what a use says of itself
moved_long : (room : List ℕ) (d page : ℕ) → d < length room → length (moved_up room d page) ≡ length room
moved_long room d page l =
    let a = length-append (take d room) (drop (suc d) room) in
    let b = length-take-le d room (omega arith) in
    let c = length-drop (suc d) room in
    omega arith

pub left_few : (found depth : ℕ) → found ≤ 128 → left_by found depth < 128
left_few found depth l = by_test (eqb found 0) (λ e. rw e (omega arith)) (λ e. let n = eqb-false found 0 e in rw e (omega (arith, n)))

pub used : (room room' : List ℕ) (depth page found d : ℕ) → Stands room depth → found ≡ past (place_in (take depth room) page) → found ≤ 128
    → d ≡ left_by found depth → room' ≡ moved_up room d page → Used room depth page found room'
used room room' depth page found d s e few q m =
    let z = s.size in
    let l = left_few found depth few in
    let moved = m ∙ ap (λ (i : ℕ). moved_up room i page) q in record {
      place = e;
      few = few;
      size = ap length moved ∙ moved_long room (left_by found depth) page (rw z l) ∙ z;
      stack = ap (take (deepened found depth)) moved ∙ moved_stack room page z depth found s.few e;
    }

-- How often each place is found, and the misses that follow.
use mathlib.Core.Path.{◌≡◌, refl, ap, sym, ◌∙◌}
use mathlib.Core.Bool.{Bool, true, not, ◌&&◌}
use mathlib.Core.List.{List}
use Prim.Native.Nat.{ℕ, zero, suc, ◌+◌, ◌-◌, ◌≤◌, ◌<◌}
use native.Mathlib.Omega.{arith}
use native.Mathlib.Numerals.{add-one}
use lib.ListN.{length, get_or, set, take, replicate, get_or-replicate}
use lib.Seq.{get_or-set_same, get_or-set_other, sets}
use lib.Dec.{eqb, ltb, leb}
use borrow.Author.Tests.{eq-eqb, ne_eqb, eqb-true, eqb-false, lt-ltb, le-ltb, ltb-true, ltb-false}
use Rattle.std.specs.Prelude.{Option, Some, None}
use Rattle.search.specs.Search.{one_if, count_below, every_below}
use Rattle.search.specs.ForCode.{past}
use Rattle.search.proofs.Count.{count_none, count_suc, count_more, count_few}
use Rattle.trace.specs.Layout.{up_to}
use Rattle.trace.proofs.Lists.{fill_more}
use Rattle.distance.specs.Distance.{distance_at, within, misses_to, misses_at}
use Rattle.distance.specs.Recent.{touched, recent}
use Rattle.distance.specs.ForCode.{place_in, below}
use Rattle.distance.proofs.Stack.{by_test, recent_none, top_suc}
use Rattle.distance.proofs.Places.{distance_place, place_cut, recent_apart}
use Rattle.curve.specs.Curve.{curve_of, plain_kind, no_pins}
use Rattle.curve.specs.ForCode.{Stands, deepened, Used, past_at, Times, left_after, leavings, Sparing}

-- the first `depth` of the room are the pages most recently used, no more than 128
pub record Stack (pages room : List ℕ) (depth i : ℕ) : Type 0 where
  pub size : length room ≡ 128
  pub few : depth ≤ 128
  pub stack : take depth room ≡ take 128 (recent pages i)

pub stack_none : (pages room : List ℕ) → length room ≡ 128 → Stack pages room 0 0
stack_none pages room z = record { size = z; few = omega arith; stack = sym (ap (take 128) (recent_none pages)) }

pub stands : (pages room : List ℕ) (depth i : ℕ) → Stack pages room depth i → Stands room depth
stands pages room depth i s = record { size = s.size; few = s.few; once = rw s.stack (recent_apart pages 128 i) }

few_deepened : (found depth : ℕ) → depth ≤ 128 → deepened found depth ≤ 128
few_deepened found depth l = by_test (eqb found 0) (λ e. rw e (omega arith)) (λ e. rw e l)

pub stack_more : (pages room room' : List ℕ) (depth i page found : ℕ) → Stack pages room depth i → page ≡ get_or pages i 0 → Used room depth page found room'
    → Stack pages room' (deepened found depth) (i + 1)
stack_more pages room room' depth i page found s e u = record {
  size = u.size;
  few = few_deepened found depth s.few;
  stack = u.stack ∙ ap (λ (l : List ℕ). take 128 (touched page l)) s.stack ∙ ap (λ (x : ℕ). take 128 (touched x (take 128 (recent pages i)))) e
      ∙ sym (top_suc pages 128 i) ∙ ap (λ (n : ℕ). take 128 (recent pages n)) (sym (add-one i));
}

-- what is found on the stack is the distance
pub found_is : (pages room room' : List ℕ) (depth i page found : ℕ) → Stack pages room depth i → page ≡ get_or pages i 0 → Used room depth page found room' → found ≡ past_at pages i
unfolding past_at
found_is pages room room' depth i page found s e u =
    u.place ∙ ap (λ (l : List ℕ). past (place_in l page)) s.stack ∙ ap (λ (x : ℕ). past (place_in (take 128 (recent pages i)) x)) e
    ∙ ap past (place_cut 128 (recent pages i) (get_or pages i 0)) ∙ ap (λ (r : Option ℕ). past (below 128 r)) (sym (distance_place pages i))

pub times_none : (pages : List ℕ) → Times pages (replicate 129 0) 0
times_none pages = record { counted = λ j l. get_or-replicate 129 j 0 0 (omega arith) ∙ sym (count_none (λ i. eqb (past_at pages i) j)) }

pub times_few : (pages times : List ℕ) (n j : ℕ) → Times pages times n → j ≤ 128 → get_or times j 0 ≤ n
times_few pages times n j t l = rw (t.counted j l) (count_few (λ i. eqb (past_at pages i) j) n)

pub times_more : (pages times : List ℕ) (n found : ℕ) → length times ≡ 129 → Times pages times n → found ≡ past_at pages n → found ≤ 128
    → Times pages (set times found (get_or times found 0 + 1)) (n + 1)
times_more pages times n found z t e few = record { counted = λ j l. at j l }
  where
    at : (j : ℕ) → j ≤ 128 → get_or (set times found (get_or times found 0 + 1)) j 0 ≡ count_below (λ i. eqb (past_at pages i) j) (n + 1)
    at j l =
        let more = count_more (λ i. eqb (past_at pages i) j) n in
        let before = t.counted j l in
        by_test (eqb found j)
        (λ q. let k : found ≡ j = eqb-true found j q in
        let one = ap one_if (eq-eqb (past_at pages n) j (sym e ∙ k)) in
        let v = ap (λ (i : ℕ). get_or (set times found (get_or times found 0 + 1)) i 0) (sym k) ∙ get_or-set_same times found (get_or times found 0 + 1) 0 (omega arith) in
        let w = ap (λ (i : ℕ). get_or times i 0) k in
        v ∙ omega arith)
        (λ q. let ne = eqb-false found j q in
        let one = ap one_if (ne_eqb (past_at pages n) j (λ k. ne (e ∙ k))) in
        let v = get_or-set_other times found j (get_or times found 0 + 1) 0 (λ k. ne (sym k)) in
        v ∙ omega arith)

-- counts of a test that is one of two others
count_parts : (a b c : ℕ → Bool) (n : ℕ) → ((i : ℕ) → one_if (a i) ≡ one_if (b i) + one_if (c i)) → count_below a n ≡ count_below b n + count_below c n
count_parts a b c zero h = let x = count_none a in let y = count_none b in let z = count_none c in omega arith
count_parts a b c (suc n) h =
    let x = count_suc a n in let y = count_suc b n in let z = count_suc c n in let e = count_parts a b c n h in let o = h n in omega arith

count_all : (ok : ℕ → Bool) (n : ℕ) → ((i : ℕ) → ok i ≡ true) → count_below ok n ≡ n
count_all ok zero h = count_none ok
count_all ok (suc n) h = let x = count_suc ok n in let e = count_all ok n h in let o = ap one_if (h n) in omega arith

-- with no frame each use is a miss
not_within : (r : Option ℕ) → not (within 0 r) ≡ true
not_within None = refl
not_within (Some d) = ap not (le-ltb d 0 (omega arith))

frameless : (pages : List ℕ) (n : ℕ) → misses_to pages 0 n ≡ n
unfolding misses_to
frameless pages n = count_all (λ i. not (within 0 (distance_at pages i))) n (λ i. not_within (distance_at pages i))

-- one frame more spares the uses at one place
one_spared : (r : Option ℕ) (f : ℕ) → f < 128 → one_if (not (within f r)) ≡ one_if (not (within (suc f) r)) + one_if (eqb (past (below 128 r)) (suc f))
one_spared None f l = let e = ap one_if (ne_eqb 0 (suc f) (λ q. omega arith)) in omega arith
one_spared (Some d) f l =
    by_test (ltb d f)
    (λ h. let m = ltb-true d f h in
    rw (h, lt-ltb d (suc f) (omega arith), lt-ltb d 128 (omega arith), ne_eqb (d + 1) (suc f) (λ q. omega arith)) (omega arith))
    (λ h. let m = ltb-false d f h in
    by_test (eqb d f)
    (λ e. let q = eqb-true d f e in
    rw (h, lt-ltb d (suc f) (omega arith), lt-ltb d 128 (omega arith), eq-eqb (d + 1) (suc f) (omega arith)) (omega arith))
    (λ e. let n = eqb-false d f e in
    rw (h, le-ltb d (suc f) (omega (arith, n))) (by_test (ltb d 128)
    (λ u. rw (u, ne_eqb (d + 1) (suc f) (λ q. n (omega arith))) (omega arith))
    (λ u. rw (u, ne_eqb 0 (suc f) (λ q. omega arith)) (omega arith)))))

spared : (pages : List ℕ) (f n : ℕ) → f < 128 → misses_to pages f n ≡ misses_to pages (suc f) n + count_below (λ i. eqb (past_at pages i) (suc f)) n
unfolding misses_to past_at
spared pages f n l =
    count_parts (λ i. not (within f (distance_at pages i))) (λ i. not (within (suc f) (distance_at pages i))) (λ i. eqb (past (below 128 (distance_at pages i))) (suc f)) n
    (λ i. one_spared (distance_at pages i) f l)

-- lists that agree at each place
pub up_to_cong : (f g : ℕ → ℕ) (n : ℕ) → ((i : ℕ) → i < n → f i ≡ g i) → up_to f n ≡ up_to g n
up_to_cong f g zero h = refl
up_to_cong f g (suc n) h = rw (up_to_cong f g n (λ i l. h i (omega arith)), h n (omega arith))

-- so what is left after f frames are the misses with f
module _ (pages times : List ℕ) (n : ℕ) (t : Times pages times n) where
  pub left_is : (f : ℕ) → f ≤ 128 → left_after times n f ≡ misses_to pages f n
  unfolding left_after
  left_is zero l = sym (frameless pages n)
  left_is (suc f) l =
      let before = left_is f (omega arith) in
      let s = spared pages f n l in
      let c = t.counted (suc f) l in
      omega arith

  pub sparing : Sparing times n
  sparing f l =
      let before = left_is f (omega arith) in
      let s = spared pages f n l in
      let c = t.counted (suc f) l in
      let e = ap (λ (i : ℕ). get_or times i 0) (add-one f) in
      omega arith

  -- and all of them are the curve
  pub curve_is : length pages ≡ n → leavings times n 128 ≡ curve_of pages
  unfolding leavings curve_of
  curve_is z =
      up_to_cong (λ i. left_after times n (i + 1)) (λ i. misses_at pages (suc i)) 128
      (λ i l. ap (left_after times n) (add-one i) ∙ left_is (suc i) l ∙ ap (misses_to pages (suc i)) (sym z))

-- no frame, and one more
pub left_none : (times : List ℕ) (n : ℕ) → n ≡ left_after times n 0
unfolding left_after
left_none times n = refl

pub left_more : (times : List ℕ) (n f left : ℕ) → left ≡ left_after times n f → left - get_or times (f + 1) 0 ≡ left_after times n (f + 1)
unfolding left_after
left_more times n f left e = rw (e, add-one f)

pub leavings_none : (times list : List ℕ) (n : ℕ) → list ≡ sets list 0 (leavings times n 0)
unfolding leavings
leavings_none times list n = refl

pub leavings_more : (times list₀ list : List ℕ) (n f v : ℕ) → list ≡ sets list₀ 0 (leavings times n f) → v ≡ left_after times n (f + 1)
    → set list f v ≡ sets list₀ 0 (leavings times n (f + 1))
unfolding leavings
leavings_more times list₀ list n f v e w = fill_more (λ i. left_after times n (i + 1)) list₀ list f v e w

-- whether the first n kinds are reads and writes
unfoldable pub plain_to : List ℕ → ℕ → Bool
plain_to kinds n = every_below (λ j. plain_kind (get_or kinds j 0)) n

pub plain_none : (kinds : List ℕ) → true ≡ plain_to kinds 0
unfolding plain_to every_below
plain_none kinds = refl

pub plain_more : (kinds : List ℕ) (i kind : ℕ) (plain : Bool) → plain ≡ plain_to kinds i → kind ≡ get_or kinds i 0 → (plain && leb kind 1) ≡ plain_to kinds (i + 1)
unfolding plain_to every_below
plain_more kinds i kind plain e k = rw (e, k, add-one i)

pub plain_all : (kinds : List ℕ) (n : ℕ) → n ≡ length kinds → plain_to kinds n ≡ no_pins kinds
unfolding plain_to no_pins
plain_all kinds n e = rw e

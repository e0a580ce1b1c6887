-- The place of a page in a list, and in the stack: as many distinct pages were used since.
use mathlib.Core.Path.{◌≡◌, refl, ap, sym, ◌∙◌}
use mathlib.Core.Bool.{Bool, true, false, ◌||◌, not, true≢false}
use mathlib.Core.List.{List, [], ◌∷◌, ◌++◌}
use Prim.Native.Nat.{ℕ, zero, suc, ◌+◌, ◌-◌, ◌≤◌, ◌<◌}
use native.Mathlib.Omega.{arith}
use lib.ListN.{length, get_or, take, drop}
use lib.Seq.{get_or-drop, take-suc, take-length, length-take-le}
use lib.Dec.{eqb, ltb}
use borrow.Author.Tests.{eq-eqb, ne_eqb, eqb-true, eqb-false, lt-ltb, le-ltb, ltb-true, ltb-false}
use Rattle.std.specs.Prelude.{Option, Some, None}
use Rattle.search.specs.Search.{pick, on_found, is_found, better, least_below, never, among, one_if}
use Rattle.search.proofs.Among.{among_at}
use Rattle.search.proofs.Every.{same_test}
use Rattle.search.proofs.Count.{count_none, count_suc}
use Rattle.distance.specs.Distance.{last_use, distinct_in, distance_at, within}
use Rattle.distance.specs.Recent.{without, touched, recent}
use Rattle.distance.specs.ForCode.{deeper, place_in, Once, below}
use Rattle.distance.proofs.Stack.{by_test, not_there, among_none, among_here, among_there, among_more, without_here, without_there, without_none, without_absent, without_length, without_other, without_from, recent_none, recent_suc}

-- two places apart
at_same : (a b : ℕ) → Some a ≡ Some b → a ≡ b
at_same a b e = ap (λ (r : Option ℕ). on_found r (λ d. d) 0) e

found_not : (a : ℕ) → Some a ≡ None → ⊥
found_not a e = true≢false (ap is_found e)

-- where the first is the page, and where it is not
place_none : (x : ℕ) → place_in [] x ≡ None
unfolding place_in
place_none x = refl

place_here : (x y : ℕ) (ys : List ℕ) → eqb y x ≡ true → place_in (y ∷ ys) x ≡ Some 0
unfolding place_in
place_here x y ys e = rw e

place_there : (x y : ℕ) (ys : List ℕ) → eqb y x ≡ false → place_in (y ∷ ys) x ≡ deeper (place_in ys x)
unfolding place_in
place_there x y ys e = rw e

-- tests one place further down
lt_deeper : (r : Option ℕ) (f : ℕ) → within (suc f) (deeper r) ≡ within f r
lt_deeper (Some d) f =
    by_test (ltb d f) (λ h. let l = ltb-true d f h in lt-ltb (suc d) (suc f) (omega arith) ∙ sym h) (λ h. let l = ltb-false d f h in le-ltb (suc d) (suc f) (omega arith) ∙ sym h)
lt_deeper None f = refl

not_below : (r : Option ℕ) → within 0 r ≡ false
not_below (Some d) = le-ltb d 0 (omega arith)
not_below None = refl

-- a page is among the first f exactly where its place is below f
place_among : (f : ℕ) (l : List ℕ) (x : ℕ) → within f (place_in l x) ≡ among (take f l) x
place_among zero l x = not_below (place_in l x) ∙ sym (among_none x)
place_among (suc f) [] x = rw (place_none x) (sym (among_none x))
place_among (suc f) (y ∷ ys) x =
    by_test (eqb y x) (λ e. rw (place_here x y ys e) (lt-ltb 0 (suc f) (omega arith) ∙ sym (among_here x y (take f ys) e)))
    (λ e. rw (place_there x y ys e) (lt_deeper (place_in ys x) f ∙ place_among f ys x ∙ sym (among_there x y (take f ys) e)))

-- a list that is cut tells each place below the cut
below_deeper : (m : ℕ) (r : Option ℕ) → deeper (below m r) ≡ below (suc m) (deeper r)
below_deeper m None = refl
below_deeper m (Some d) =
    by_test (ltb d m)
    (λ h. let l = ltb-true d m h in rw (h, lt-ltb (suc d) (suc m) (omega arith)))
    (λ h. let l = ltb-false d m h in rw (h, le-ltb (suc d) (suc m) (omega arith)))

none_below : (r : Option ℕ) → None ≡ below 0 r
none_below None = refl
none_below (Some d) = rw (le-ltb d 0 (omega arith))

pub place_cut : (m : ℕ) (l : List ℕ) (x : ℕ) → place_in (take m l) x ≡ below m (place_in l x)
place_cut zero l x = place_none x ∙ none_below (place_in l x)
place_cut (suc m) [] x = rw (place_none x)
place_cut (suc m) (y ∷ ys) x =
    by_test (eqb y x) (λ e. rw (place_here x y ys e, place_here x y (take m ys) e, lt-ltb 0 (suc m) (omega arith)))
    (λ e. rw (place_there x y ys e, place_there x y (take m ys) e) (ap deeper (place_cut m ys x) ∙ below_deeper m (place_in ys x)))

-- one page more at the end
snoc_deeper : (r : Option ℕ) (b : Bool) (n : ℕ) → deeper (on_found r Some (pick b (Some n) None)) ≡ on_found (deeper r) Some (pick b (Some (suc n)) None)
snoc_deeper (Some d) b n = refl
snoc_deeper None true n = refl
snoc_deeper None false n = refl

place_snoc : (l : List ℕ) (y x : ℕ) → place_in (l ++ (y ∷ [])) x ≡ on_found (place_in l x) Some (pick (eqb y x) (Some (length l)) None)
unfolding place_in
place_snoc [] y x = refl
place_snoc (z ∷ zs) y x =
    by_test (eqb z x) (λ e. rw e)
    (λ e. rw e (ap deeper (place_snoc zs y x) ∙ snoc_deeper (place_in zs x) (eqb y x) (length zs)))

offer_snoc : (r : Option ℕ) (b : Bool) (n : ℕ) → pick b (better never n r) r ≡ on_found r Some (pick b (Some n) None)
offer_snoc (Some d) true n = refl
offer_snoc (Some d) false n = refl
offer_snoc None true n = refl
offer_snoc None false n = refl

-- the place among the first n is what a search finds
pub place_least : (l : List ℕ) (x n : ℕ) → n ≤ length l → least_below (λ j. eqb (get_or l j 0) x) never n ≡ place_in (take n l) x
unfolding least_below
place_least l x zero h = sym (place_none x)
place_least l x (suc n) h =
    ap (λ (r : Option ℕ). pick (eqb (get_or l n 0) x) (better never n r) r) (place_least l x n (omega arith))
    ∙ offer_snoc (place_in (take n l) x) (eqb (get_or l n 0) x) n
    ∙ ap (λ (k : ℕ). on_found (place_in (take n l) x) Some (pick (eqb (get_or l n 0) x) (Some k) None)) (sym (length-take-le n l (omega arith)))
    ∙ sym (place_snoc (take n l) (get_or l n 0) x)
    ∙ ap (λ (k : List ℕ). place_in k x) (sym (take-suc l n 0 h))

-- a page that has no place is not in the list
pub place_nowhere : (l : List ℕ) (x : ℕ) → place_in l x ≡ None → among l x ≡ false
place_nowhere l x h =
    ap (λ (k : List ℕ). among k x) (sym (take-length l)) ∙ sym (place_among (length l) l x) ∙ ap (within (length l)) h

-- a page that has one is taken out there
pub place_without : (l : List ℕ) (x d : ℕ) → place_in l x ≡ Some d → (d < length l) × (without x l ≡ take d l ++ drop (suc d) l)
place_without [] x d h = absurd (found_not d (sym h ∙ place_none x))
place_without (y ∷ ys) x d h =
    by_test (eqb y x)
    (λ e. let q : d ≡ 0 = at_same d 0 (sym h ∙ place_here x y ys e) in rw q (omega arith, without_here x y ys e))
    (λ e. next (place_in ys x) refl (sym (place_there x y ys e) ∙ h) e (place_without ys x))
  where
    next : (r : Option ℕ) → place_in ys x ≡ r → deeper (place_in ys x) ≡ Some d → eqb y x ≡ false
        → ((k : ℕ) → place_in ys x ≡ Some k → (k < length ys) × (without x ys ≡ take k ys ++ drop (suc k) ys))
        → (d < length (y ∷ ys)) × (without x (y ∷ ys) ≡ take d (y ∷ ys) ++ drop (suc d) (y ∷ ys))
    next None q g e before = absurd (found_not d (sym g ∙ ap deeper q))
    next (Some k) q g e before =
        let s : d ≡ suc k = at_same d (suc k) (sym g ∙ ap deeper q) in
        let b = before k q in
        let l = b.0 in
        rw s (omega arith, without_there x y ys e ∙ ap (λ (r : List ℕ). y ∷ r) b.1)

-- pages that stand once stand apart
pub once_apart : (l : List ℕ) → Once l → (i j : ℕ) → i < length l → j < i → get_or l j 0 ≡ get_or l i 0 → ⊥
unfolding Once
once_apart [] h i j l m e = omega arith
once_apart (y ∷ ys) h zero j l m e = omega arith
once_apart (y ∷ ys) h (suc i) zero l m e = true≢false (sym (among_at ys i (omega arith)) ∙ ap (among ys) (sym e) ∙ h.0)
once_apart (y ∷ ys) h (suc i) (suc j) l m e = once_apart ys h.1 i j (omega arith) (omega arith) e

-- and still do where the list is cut
take_once : (n : ℕ) (l : List ℕ) → Once l → Once (take n l)
unfolding Once
take_once zero l h = tt
take_once (suc n) [] h = tt
take_once (suc n) (y ∷ ys) h =
    (by_test (among (take n ys) y) (λ a. absurd (true≢false (sym (among_cut n ys y a) ∙ h.0))) (λ a. a), take_once n ys h.1)
  where
    among_cut : (n : ℕ) (l : List ℕ) (x : ℕ) → among (take n l) x ≡ true → among l x ≡ true
    among_cut zero l x a = absurd (not_there x a)
    among_cut (suc n) [] x a = a
    among_cut (suc n) (z ∷ zs) x a =
        by_test (eqb z x) (λ e. among_here x z zs e) (λ e. among_more x z zs (among_cut n zs x (sym (among_there x z (take n zs) e) ∙ a)))

-- a page that is not in a list has no place there, and behind a list without it its place is the list's length
pub place_absent : (l : List ℕ) (x : ℕ) → among l x ≡ false → place_in l x ≡ None
place_absent [] x h = place_none x
place_absent (y ∷ ys) x h =
    by_test (eqb y x) (λ e. absurd (true≢false (sym (among_here x y ys e) ∙ h)))
    (λ e. place_there x y ys e ∙ ap deeper (place_absent ys x (sym (among_there x y ys e) ∙ h)))

place_behind : (l rest : List ℕ) (x : ℕ) → among l x ≡ false → place_in (l ++ (x ∷ rest)) x ≡ Some (length l)
place_behind [] rest x h = place_here x x rest (eq-eqb x x refl)
place_behind (y ∷ ys) rest x h =
    by_test (eqb y x) (λ e. absurd (true≢false (sym (among_here x y ys e) ∙ h)))
    (λ e. place_there x y (ys ++ (x ∷ rest)) e ∙ ap deeper (place_behind ys rest x (sym (among_there x y ys e) ∙ h)))

-- another page taken out: from the front, or from behind
abbrev behind : ℕ → List ℕ → List ℕ → List ℕ
behind y l rest = pick (among l y) rest (without y rest)

without_across : (y x : ℕ) (l rest : List ℕ) → (x ≡ y → ⊥) → without y (l ++ (x ∷ rest)) ≡ without y l ++ (x ∷ behind y l rest)
without_across y x [] rest n = rw (without_none y, among_none y) (without_there y x rest (ne_eqb x y n))
without_across y x (z ∷ zs) rest n =
    by_test (eqb z y) (λ e. rw (without_here y z (zs ++ (x ∷ rest)) e, without_here y z zs e, among_here y z zs e))
    (λ e. rw (without_there y z (zs ++ (x ∷ rest)) e, without_there y z zs e, among_there y z zs e) (ap (λ (r : List ℕ). z ∷ r) (without_across y x zs rest n)))

-- the stack holds exactly the pages used
touched_among : (y x : ℕ) (l : List ℕ) → among (touched y l) x ≡ (eqb y x || among l x)
touched_among y x l =
    by_test (eqb y x) (λ e. among_here x y (without y l) e ∙ rw e)
    (λ e. among_there x y (without y l) e
    ∙ same_test (among (without y l) x) (among l x) (without_from y x l) (without_other y x l (λ q. eqb-false y x e (sym q)))
    ∙ rw e)

-- the last use, where one use more is it and where it is not
use_none : (pages : List ℕ) (x : ℕ) → last_use pages x 0 ≡ None
unfolding last_use
use_none pages x = refl

use_here : (pages : List ℕ) (x n : ℕ) → eqb (get_or pages n 0) x ≡ true → last_use pages x (suc n) ≡ Some n
unfolding last_use
use_here pages x n e = rw e

use_before : (pages : List ℕ) (x n : ℕ) → eqb (get_or pages n 0) x ≡ false → last_use pages x (suc n) ≡ last_use pages x n
unfolding last_use
use_before pages x n e = rw e

recent_used : (pages : List ℕ) (n x : ℕ) → among (recent pages n) x ≡ is_found (last_use pages x n)
recent_used pages zero x = ap (λ (l : List ℕ). among l x) (recent_none pages) ∙ among_none x ∙ sym (ap is_found (use_none pages x))
recent_used pages (suc n) x =
    ap (λ (l : List ℕ). among l x) (recent_suc pages n) ∙ touched_among (get_or pages n 0) x (recent pages n)
    ∙ by_test (eqb (get_or pages n 0) x)
    (λ e. rw (e, use_here pages x n e))
    (λ e. rw (e, use_before pages x n e) (recent_used pages n x))

-- each once
once_gone : (y : ℕ) (l : List ℕ) → Once l → among (without y l) y ≡ false
unfolding Once
once_gone y [] h = rw (without_none y) (among_none y)
once_gone y (z ∷ zs) h =
    by_test (eqb z y) (λ e. rw (without_here y z zs e, ← eqb-true z y e) h.0)
    (λ e. rw (without_there y z zs e) (among_there y z (without y zs) e ∙ once_gone y zs h.1))

once_without : (y : ℕ) (l : List ℕ) → Once l → Once (without y l)
unfolding Once
once_without y [] h = rw (without_none y) tt
once_without y (z ∷ zs) h =
    by_test (eqb z y) (λ e. rw (without_here y z zs e) h.1)
    (λ e. rw (without_there y z zs e)
    (by_test (among (without y zs) z) (λ a. absurd (true≢false (sym (without_from y z zs a) ∙ h.0))) (λ a. a), once_without y zs h.1))

recent_once : (pages : List ℕ) (n : ℕ) → Once (recent pages n)
unfolding Once
recent_once pages zero = rw (recent_none pages) tt
recent_once pages (suc n) =
    rw (recent_suc pages n) (once_gone (get_or pages n 0) (recent pages n) (recent_once pages n), once_without (get_or pages n 0) (recent pages n) (recent_once pages n))

pub recent_apart : (pages : List ℕ) (m n : ℕ) → Once (take m (recent pages n))
recent_apart pages m n = take_once m (recent pages n) (recent_once pages n)

-- and as many as there are distinct ones
recent_long : (pages : List ℕ) (n : ℕ) → length (recent pages n) ≡ distinct_in pages n
unfolding distinct_in
recent_long pages zero = ap length (recent_none pages) ∙ sym (count_none _)
recent_long pages (suc n) =
    let x = get_or pages n 0 in
    let l = recent pages n in
    let before = recent_long pages n in
    let more = count_suc (λ i. not (is_found (last_use pages (get_or pages i 0) i))) n in
    let same = recent_used pages n x in
    ap length (recent_suc pages n)
    ∙ by_test (among l x)
    (λ e. let w = without_length x l e in let o = ap (λ (b : Bool). one_if (not b)) (sym same ∙ e) in omega arith)
    (λ e. let w = ap length (without_absent x l e) in let o = ap (λ (b : Bool). one_if (not b)) (sym same ∙ e) in omega arith)

-- the last use m of a page: it is one, and the page is not used since
pub record LastUse (pages : List ℕ) (x n m : ℕ) : Type 0 where
  pub before : m < n
  pub uses : get_or pages m 0 ≡ x
  pub not_since : last_use (drop (suc m) pages) x (n - suc m) ≡ None

last_use_lem : (pages : List ℕ) (x n m : ℕ) → last_use pages x n ≡ Some m → LastUse pages x n m
last_use_lem pages x zero m h = absurd (found_not m (sym h ∙ use_none pages x))
last_use_lem pages x (suc n) m h =
    by_test (eqb (get_or pages n 0) x)
    (λ e. let q : m ≡ n = at_same m n (sym h ∙ use_here pages x n e) in
    let z : suc n - suc m ≡ 0 = omega arith in
    record { before = omega arith; uses = ap (λ (k : ℕ). get_or pages k 0) q ∙ eqb-true (get_or pages n 0) x e; not_since = rw z (use_none (drop (suc m) pages) x) })
    (λ e. let r = last_use_lem pages x n m (sym (use_before pages x n e) ∙ h) in
    let b = r.before in
    let z : suc n - suc m ≡ suc (n - suc m) = omega arith in
    let k : suc m + (n - suc m) ≡ n = omega arith in
    let there = ap (λ (y : ℕ). eqb y x) (get_or-drop (suc m) pages (n - suc m) 0 ∙ ap (λ (y : ℕ). get_or pages y 0) k) ∙ e in
    record { before = omega arith; uses = r.uses; not_since = rw z (use_before (drop (suc m) pages) x (n - suc m) there ∙ r.not_since) })

-- since page m was used and until it is again, the stack is that of the pages since, then page m, then others
module _ (pages : List ℕ) (m : ℕ) where
  abbrev since : List ℕ
  since = drop (suc m) pages

  record Split (n : ℕ) : Type 0 where
    rest : List ℕ
    is : recent pages (suc m + n) ≡ recent since n ++ (get_or pages m 0 ∷ rest)

  unused : (n : ℕ) → last_use since (get_or pages m 0) (suc n) ≡ None → (eqb (get_or since n 0) (get_or pages m 0) ≡ false) × (last_use since (get_or pages m 0) n ≡ None)
  unused n h =
      by_test (eqb (get_or since n 0) (get_or pages m 0))
      (λ e. absurd (found_not n (sym (use_here since (get_or pages m 0) n e) ∙ h)))
      (λ e. (e, sym (use_before since (get_or pages m 0) n e) ∙ h))

  split : (n : ℕ) → last_use since (get_or pages m 0) n ≡ None → Split n
  split zero h = record {
    rest = without (get_or pages m 0) (recent pages m);
    is = let e : suc m + 0 ≡ suc m = omega arith in rw (e, recent_none since) (recent_suc pages m);
  }
  split (suc n) h =
      let x = get_or pages m 0 in
      let y = get_or since n 0 in
      let u = unused n h in
      let r = split n u.1 in
      let e : suc m + suc n ≡ suc (suc m + n) = omega arith in record {
        rest = behind y (recent since n) r.rest;
        is = ap (recent pages) e ∙ recent_suc pages (suc m + n)
            ∙ ap (λ (z : ℕ). touched z (recent pages (suc m + n))) (sym (get_or-drop (suc m) pages n 0))
            ∙ ap (touched y) r.is
            ∙ ap (λ (l : List ℕ). y ∷ l) (without_across y x (recent since n) r.rest (λ q. eqb-false y x u.0 (sym q)))
            ∙ sym (ap (λ (l : List ℕ). l ++ (x ∷ behind y (recent since n) r.rest)) (recent_suc since n));
      }

  place_since : (n : ℕ) → last_use since (get_or pages m 0) n ≡ None → place_in (recent pages (suc m + n)) (get_or pages m 0) ≡ Some (distinct_in since n)
  place_since n h =
      let r = split n h in
      ap (λ (l : List ℕ). place_in l (get_or pages m 0)) r.is
      ∙ place_behind (recent since n) r.rest (get_or pages m 0) (recent_used since n (get_or pages m 0) ∙ ap is_found h)
      ∙ ap Some (recent_long since n)

-- the distance is the page's place in the stack
pub distance_place : (pages : List ℕ) (n : ℕ) → distance_at pages n ≡ place_in (recent pages n) (get_or pages n 0)
unfolding distance_at
distance_place pages n = go (last_use pages (get_or pages n 0) n) refl
  where
    x : ℕ
    x = get_or pages n 0

    go : (r : Option ℕ) → last_use pages x n ≡ r → on_found r (λ m. Some (distinct_in (drop (suc m) pages) (n - suc m))) None ≡ place_in (recent pages n) x
    go None e = sym (place_absent (recent pages n) x (recent_used pages n x ∙ ap is_found e))
    go (Some m) e =
        let u = last_use_lem pages x n m e in
        let b = u.before in
        let k : suc m + (n - suc m) ≡ n = omega arith in
        let h = ap (λ (y : ℕ). last_use (drop (suc m) pages) y (n - suc m)) u.uses ∙ u.not_since in
        sym (place_since pages m (n - suc m) h)
        ∙ ap (λ (j : ℕ). place_in (recent pages j) (get_or pages m 0)) k
        ∙ ap (place_in (recent pages n)) u.uses

-- so fewer than f distinct pages lie between exactly where the page is one of the f most recently used
pub distance_among : (pages : List ℕ) (f n : ℕ) → within f (distance_at pages n) ≡ among (take f (recent pages n)) (get_or pages n 0)
distance_among pages f n = ap (within f) (distance_place pages n) ∙ place_among f (recent pages n) (get_or pages n 0)

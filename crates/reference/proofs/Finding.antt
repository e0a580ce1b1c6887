-- The one frame that holds a page: what is found among the frames in use, and a guess that is right.
use mathlib.Core.Path.{◌≡◌, refl, ap, sym, ◌∙◌}
use mathlib.Core.Bool.{Bool, true, false, and-eq-true_iff, true≢false}
use mathlib.Core.List.{List}
use Prim.Native.Nat.{ℕ, ◌<◌}
use native.Mathlib.Omega.{arith}
use native.Mathlib.Decide.{dec_lt}
use lib.Dec.{eqb}
use borrow.Author.Tests.{eqb-true}
use Rattle.std.specs.Prelude.{Option, Some, None}
use Rattle.search.specs.Search.{is_found, least_below, never}
use Rattle.search.proofs.Least.{least_none_of, least_rest, first_found}
use Rattle.search.proofs.Every.{not_so}
use Rattle.pool.specs.declared.Frame.{Frame}
use Rattle.pool.specs.Pool.{frame_at}
use Rattle.reference.specs.Search.{has, find_page}
use Rattle.reference.specs.ForCode.{Residents}

module _ (fs : List Frame) (n page : ℕ) (r : Residents fs n) where
  -- among the frames in use the page alone tells
  pub tells : (i : ℕ) → i < n → has fs page i ≡ eqb (frame_at fs i).page page
  tells i l = rw (r.used i l)

  below : (i : ℕ) → i < 128 → has fs page i ≡ true → i < n
  below i l h = elim (dec_lt i n) [
    | yes m ↦ m
    | no m ↦ absurd (true≢false (sym h ∙ rw (r.rest i (omega (arith, m)) l)))
  ]

  -- no two frames hold the page
  pub one_holds : (i j : ℕ) → i < 128 → j < i → has fs page i ≡ true → has fs page j ≡ true → ⊥
  one_holds i j l m a b =
      let x = (and-eq-true_iff (frame_at fs i).used (eqb (frame_at fs i).page page)).0 a in
      let y = (and-eq-true_iff (frame_at fs j).used (eqb (frame_at fs j).page page)).0 b in
      r.apart i j (below i l a) m (eqb-true (frame_at fs j).page page y.1 ∙ sym (eqb-true (frame_at fs i).page page x.1))

  -- what is found among them is what is found among all
  pub among_all : least_below (has fs page) never n ≡ find_page fs page
  unfolding find_page
  among_all = sym (least_rest (has fs page) never n 128 r.few (λ i l m. rw (r.rest i l m)))

  pub not_found : (seen : Bool) → seen ≡ is_found (find_page fs page) → seen ≡ false → None ≡ find_page fs page
  not_found seen e h = go (find_page fs page) refl
    where
      go : (f : Option ℕ) → find_page fs page ≡ f → None ≡ find_page fs page
      go (Some j) y = absurd (true≢false (sym (e ∙ ap is_found y) ∙ h))
      go None y = sym y

  -- a frame that holds the page is what is found
  pub guess_right : (i : ℕ) → i < 128 → has fs page i ≡ true → Some i ≡ find_page fs page
  unfolding find_page
  guess_right i l h =
      sym (first_found (has fs page) 128 i l
      (least_none_of (has fs page) never i (λ j m. not_so (has fs page j) (one_holds i j l m h))) h)

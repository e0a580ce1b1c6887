-- A renamed pool's frames: each is the renamed one, pages are found where they were, and the same frames are unused.
use mathlib.Core.Path.{◌≡◌, refl, ap, ◌∙◌}
use mathlib.Core.Bool.{Bool, true, false, ◌&&◌, not}
use mathlib.Core.List.{List, [], ◌∷◌, map}
use Prim.Native.Nat.{ℕ}
use lib.Dec.{eqb}
use borrow.Author.Tests.{eq-eqb, eqb-true}
use Rattle.search.specs.Search.{never, among}
use Rattle.search.proofs.Least.{least_cong}
use Rattle.search.proofs.Every.{same_test}
use Rattle.search.proofs.Among.{All}
use Rattle.pool.specs.declared.Frame.{Frame}
use Rattle.pool.specs.declared.Pool.{Pool}
use Rattle.pool.specs.Pool.{frame_room, frame_at}
use Rattle.reference.specs.Search.{has, find_page, unused, lowest_unused}
use Rattle.victim.proofs.Owed.{frame_repaged}
use Rattle.batch.specs.Batch.{pages_of}
use Rattle.rename.specs.Renamed.{renamed_pages, held_page, renamed_frame, renamed_pool}
use Rattle.rename.specs.Sameness.{Renames}

pub frame_renamed : (ρ : ℕ → ℕ) (fs : List Frame) (i : ℕ) → frame_at (map (renamed_frame ρ) fs) i ≡ renamed_frame ρ (frame_at fs i)
frame_renamed ρ fs i = frame_repaged (held_page ρ) refl fs i

-- the page of a frame in use
pub page_renamed : (ρ : ℕ → ℕ) (fs : List Frame) (i : ℕ) → (frame_at fs i).used ≡ true → (frame_at (map (renamed_frame ρ) fs) i).page ≡ ρ (frame_at fs i).page
page_renamed ρ fs i u = ap (λ (fr : Frame). fr.page) (frame_renamed ρ fs i) ∙ ap (λ (b : Bool). held_page ρ b (frame_at fs i).page) u

-- the pages of frames in use
pub pages_renamed : (ρ : ℕ → ℕ) (fs : List Frame) (xs : List ℕ) → All (λ i. (frame_at fs i).used ≡ true) xs → pages_of (map (renamed_frame ρ) fs) xs ≡ renamed_pages ρ (pages_of fs xs)
unfolding pages_of All
pages_renamed ρ fs [] a = refl
pages_renamed ρ fs (x ∷ xs) a =
    ap (λ (page : ℕ). page ∷ map (λ i. (frame_at (map (renamed_frame ρ) fs) i).page) xs) (page_renamed ρ fs x a.0)
    ∙ ap (λ (l : List ℕ). ρ (frame_at fs x).page ∷ l) (pages_renamed ρ fs xs a.1)

-- a frame is unused where it was
pub unused_renamed : (ρ : ℕ → ℕ) (p : Pool) → lowest_unused (renamed_pool ρ p) ≡ lowest_unused p
unfolding lowest_unused
unused_renamed ρ p =
    least_cong (unused (renamed_pool ρ p).frames) (unused p.frames) never never p.settings.frames
    (λ i _. ap (λ (fr : Frame). not fr.used) (frame_renamed ρ p.frames i)) (λ i j _ _. refl)

-- a frame in use holds a page of the list
abbrev pub Listed : List ℕ → Frame → Type 0
Listed pages fr = fr.used ≡ true → among pages fr.page ≡ true

-- and so each frame
abbrev pub AllListed : List ℕ → List Frame → Type 0
AllListed pages fs = (i : ℕ) → Listed pages (frame_at fs i)

module _ (ρ : ℕ → ℕ) (pages : List ℕ) (names : Renames ρ pages) where
  -- two pages of the list are the same where their new numbers are
  same_page : (a b : ℕ) → among pages a ≡ true → among pages b ≡ true → eqb (ρ a) (ρ b) ≡ eqb a b
  same_page a b x y =
      same_test (eqb (ρ a) (ρ b)) (eqb a b)
      (λ e. eq-eqb a b (names.one_to_one a b x y (eqb-true (ρ a) (ρ b) e)))
      (λ e. eq-eqb (ρ a) (ρ b) (ap ρ (eqb-true a b e)))

  -- a page is found where it was
  pub find_renamed : (fs : List Frame) → AllListed pages fs → (page : ℕ) → among pages page ≡ true → find_page (map (renamed_frame ρ) fs) (ρ page) ≡ find_page fs page
  unfolding find_page
  find_renamed fs listed page here =
      least_cong (has (map (renamed_frame ρ) fs) (ρ page)) (has fs page) never never frame_room
      (λ i _. ap (λ (fr : Frame). fr.used && eqb fr.page (ρ page)) (frame_renamed ρ fs i) ∙ go i (frame_at fs i).used refl)
      (λ i j _ _. refl)
    where
      go : (i : ℕ) (u : Bool) → (frame_at fs i).used ≡ u → (u && eqb (held_page ρ u (frame_at fs i).page) (ρ page)) ≡ (u && eqb (frame_at fs i).page page)
      go i true e = same_page (frame_at fs i).page page (listed i e) here
      go i false e = refl

-- The pages of trace and pool taken together, before and after renaming.
use mathlib.Core.Path.{◌≡◌, refl, ap, sym, ◌∙◌}
use mathlib.Core.Bool.{Bool, true, false, ◌||◌, false≢true}
use mathlib.Core.List.{List, [], ◌∷◌, ◌++◌, map, map-append}
use Prim.Native.Nat.{ℕ, zero, suc, ◌<◌}
use native.Mathlib.Omega.{arith}
use native.Mathlib.Nat.{not-suc-le-zero}
use lib.ListN.{length, get_or}
use borrow.Author.Tests.{eq-eqb}
use Rattle.search.specs.Search.{pick, among}
use Rattle.search.proofs.Among.{among_first, among_second, among_at}
use Rattle.word.specs.declared.Order.{Order}
use Rattle.trace.specs.Layout.{Trace}
use Rattle.pool.specs.declared.Frame.{Frame}
use Rattle.pool.specs.declared.Pool.{Pool}
use Rattle.rename.specs.Renamed.{renamed_pages, held_page, renamed_frame, renamed_pool, renamed_trace}
use Rattle.rename.specs.Sameness.{resident_pages, pages_together}
use Rattle.rename.proofs.Frames.{AllListed}

-- the page of a frame in use is resident
pub residents_listed : (fs : List Frame) → AllListed (resident_pages fs) fs
unfolding resident_pages among
residents_listed [] i u = absurd (false≢true u)
residents_listed (fr ∷ fs) zero u =
    ap (λ (b : Bool). among (pick b (fr.page ∷ []) [] ++ resident_pages fs) fr.page) u
    ∙ ap (λ (b : Bool). b || among (resident_pages fs) fr.page) (eq-eqb fr.page fr.page refl)
residents_listed (fr ∷ fs) (suc i) u = among_second (pick fr.used (fr.page ∷ []) []) (resident_pages fs) _ (residents_listed fs i u)

-- the pages of a record and a pool
pub page_in_lem : (page : ℕ) (fs : List Frame) → among (page ∷ resident_pages fs) page ≡ true
page_in_lem page fs = among_at (page ∷ resident_pages fs) 0 (omega arith)

pub residents_in : (page : ℕ) (fs : List Frame) → AllListed (page ∷ resident_pages fs) fs
residents_in page fs i u = among_second (page ∷ []) (resident_pages fs) _ (residents_listed fs i u)

-- the pages of a trace and a pool
module _ (p : Pool) (t : Trace) where
  pub trace_in_lem : (n : ℕ) → n < length t.pages → among (pages_together p t) (get_or t.pages n 0) ≡ true
  trace_in_lem n l = among_first t.pages (resident_pages p.frames) (get_or t.pages n 0) (among_at t.pages n l)

  pub pool_in_lem : AllListed (pages_together p t) p.frames
  pool_in_lem i u = among_second t.pages (resident_pages p.frames) _ (residents_listed p.frames i u)

module _ (ρ : ℕ → ℕ) where
  -- a renamed list at a place that it has
  pub renamed_at : (l : List ℕ) (n : ℕ) → n < length l → get_or (renamed_pages ρ l) n 0 ≡ ρ (get_or l n 0)
  renamed_at [] n h = absurd (not-suc-le-zero h)
  renamed_at (x ∷ l) zero h = refl
  renamed_at (x ∷ l) (suc n) h = renamed_at l n (omega arith)

  residents_renamed : (fs : List Frame) → resident_pages (map (renamed_frame ρ) fs) ≡ renamed_pages ρ (resident_pages fs)
  unfolding resident_pages
  residents_renamed [] = refl
  residents_renamed (fr ∷ fs) =
      ap (λ (l : List ℕ). pick fr.used (held_page ρ fr.used fr.page ∷ []) [] ++ l) (residents_renamed fs)
      ∙ go fr.used
    where
      go : (b : Bool) → pick b (held_page ρ b fr.page ∷ []) [] ++ renamed_pages ρ (resident_pages fs) ≡ renamed_pages ρ (pick b (fr.page ∷ []) [] ++ resident_pages fs)
      go true = refl
      go false = refl

  -- the pages of the renamed trace and pool are the renamed pages
  pub together_renamed : (p : Pool) (o : Order) (t : Trace) → pages_together (renamed_pool ρ p) (renamed_trace ρ o t) ≡ renamed_pages ρ (pages_together p t)
  together_renamed p o t =
      ap (λ (l : List ℕ). renamed_pages ρ t.pages ++ l) (residents_renamed p.frames) ∙ sym (map-append ρ t.pages (resident_pages p.frames))

-- The sizes of a quote rise, so none comes twice, and none is left out.
use mathlib.Core.Path.{◌≡◌, refl}
use mathlib.Core.Bool.{Bool, true, false}
use mathlib.Core.List.{List, [], ◌∷◌}
use mathlib.Core.Logic.{◌⊎◌, inl, inr}
use Prim.Native.Nat.{ℕ, zero, suc, ◌≤◌, ◌<◌}
use native.Mathlib.Omega.{arith}
use lib.Dec.{eqb, ltb}
use lib.ListN.{length, get_or}
use borrow.Author.Tests.{ltb-true, ltb-false, eqb-true, eqb-false}
use Rattle.amend.specs.Quote.{quote_sizes, nearer_of, next_among, next_size}

module _ (last size best : ℕ) where
  -- what is taken is the size, above the last one and, where there was a best, below it; or the best, and then the size was not nearer
  data Taken : ℕ → Type 0 where
    size_taken : last < size → (0 < best → size < best) → Taken size
    best_kept : (last < size → (0 < best) × (best ≤ size)) → Taken best

  taken : Taken (nearer_of last size best)
  unfolding nearer_of
  taken = go (ltb last size) (eqb best 0) (ltb size best) refl refl refl
    where
      go : (a b c : Bool) → ltb last size ≡ a → eqb best 0 ≡ b → ltb size best ≡ c → Taken (nearer_of last size best)
      go true true c x y z = rw (x, y) (size_taken (ltb-true last size x) (λ p. absurd (let e = eqb-true best 0 y in omega arith)))
      go true false true x y z = rw (x, y, z) (size_taken (ltb-true last size x) (λ p. ltb-true size best z))
      go true false false x y z = rw (x, y, z) (best_kept (λ l. let n = eqb-false best 0 y in let g = ltb-false size best z in (omega arith, omega arith)))
      go false b c x y z = rw x (best_kept (λ l. absurd (let g = ltb-false last size x in omega arith)))

-- the next size is above the last one, or there is none
above : (last : ℕ) (sizes : List ℕ) → (next_among last sizes ≡ 0) ⊎ (last < next_among last sizes)
above last [] = inl refl
above last (size ∷ sizes) = go (next_among last sizes) (above last sizes) (nearer_of last size (next_among last sizes)) (taken last size (next_among last sizes))
  where
    go : (best : ℕ) → (best ≡ 0) ⊎ (last < best) → (r : ℕ) → Taken last size best r → (r ≡ 0) ⊎ (last < r)
    go best i r (size_taken l f) = inr l
    go best i r (best_kept f) = i

-- and no size above the last one is below it
least : (last : ℕ) (sizes : List ℕ) (i : ℕ) → i < length sizes → last < get_or sizes i 0 → (0 < next_among last sizes) × (next_among last sizes ≤ get_or sizes i 0)
least last [] i h l = absurd (omega arith)
least last (size ∷ sizes) zero h l = go (next_among last sizes) (nearer_of last size (next_among last sizes)) (taken last size (next_among last sizes))
  where
    go : (best r : ℕ) → Taken last size best r → (0 < r) × (r ≤ size)
    go best r (size_taken k f) = (omega arith, omega arith)
    go best r (best_kept f) = f l
least last (size ∷ sizes) (suc i) h l =
    go (next_among last sizes) (nearer_of last size (next_among last sizes)) (taken last size (next_among last sizes)) (least last sizes i (omega arith) l)
  where
    go : (best r : ℕ) → Taken last size best r → (0 < best) × (best ≤ get_or sizes i 0) → (0 < r) × (r ≤ get_or sizes i 0)
    go best r (size_taken k f) b = let below = f b.0 in let most = b.1 in (omega arith, omega arith)
    go best r (best_kept f) b = b

pub sizes_rise : (own last : ℕ) → (next_size own last ≡ 0) ⊎ (last < next_size own last)
unfolding next_size
sizes_rise own last = above last (quote_sizes own)

pub no_size_left_out : (own last i : ℕ) → i < 9 → last < get_or (quote_sizes own) i 0 → (0 < next_size own last) × (next_size own last ≤ get_or (quote_sizes own) i 0)
unfolding next_size
no_size_left_out own last i h l = least last (quote_sizes own) i h l

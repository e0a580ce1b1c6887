-- An array that is made place by place, by a closure that computes each from its number.
use mathlib.Core.Path.{◌≡◌, ap, sym, subst, ◌∙◌}
use mathlib.Core.List.{List}
use Prim.Native.Nat.{ℕ, zero, suc, ◌+◌, ◌≤◌, ◌<◌}
use native.Mathlib.Omega.{arith}
use native.Mathlib.Decide.{ℕ_discrete}
use lib.ListN.{get_or}
use denote.Param.Members.{Mut}
use Rattle.std.specs.Array.{IsFromFnResultFrom}
use Rattle.std.specs.Fn.{Called}

module _ {F B : Type 0} (g : Mut F (ℕ × Unit {0}) B) (h : ℕ → B) (f : F) (calls : (x : ℕ) (y : B) (q : F) → Called g f (x, tt) y q → (q ≡ f) × (y ≡ h x)) (ys : List B) (d : B) where
  pub made_at : (n i : ℕ) → IsFromFnResultFrom g f ys i n → (k : ℕ) → i ≤ k → k < i + n → get_or ys k d ≡ h k
  made_at zero i r k a b = absurd (omega arith)
  made_at (suc n) i r k a b = elim (ℕ_discrete k i) [
    | yes e ↦ ap (λ (x : ℕ). get_or ys x d) e ∙ r.2.1 d ∙ (calls i r.1 r.0 r.3).1 ∙ ap h (sym e)
    | no e ↦ made_at n (i + 1) (subst (λ (p : F). IsFromFnResultFrom g p ys (i + 1) n) (calls i r.1 r.0 r.3).0 r.4) k (omega (arith, e)) (omega arith)
  ]

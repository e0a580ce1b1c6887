-- Laws of demands: what is known where nothing was refused.
use mathlib.Core.Path.{◌≡◌, refl, sym, ap, ◌∙◌}
use mathlib.Core.Bool.{Bool, true, false}
use mathlib.Core.List.{List, [], ◌∷◌}
use Prim.Native.Nat.{ℕ, zero, suc, ◌<◌}
use native.Mathlib.Omega.{arith}
use lib.ListN.{get_or}
use Rattle.std.specs.Prelude.{Result, Ok, Err}
use Rattle.std.specs.Result.{IsErr, IsErrAnd}
use Rattle.std.proofs.lemmas.Result.{err_from_is_err_and}
use Rattle.refusal.specs.declared.Refusal.{Refusal}
use Rattle.refusal.specs.declared.Refusal.TheVariants.{TooShort, UnknownMark, OtherEdition, TooMany, WrongLength, BadField, WrongWrites, OutOfRange, NoReferenceLeft, NoFrame, NotPinned, PinsFull, NoRoom, NotSound, OtherSettings, HasPins}
use Rattle.refusal.specs.Refusals.{demand, or_else, stored}
use Rattle.refusal.specs.Numbers.{number_of, answer_of}

-- a demand that refuses nothing was met, and what follows refuses nothing
pub met : (b : Bool) (refusal after : ℕ) → 0 < refusal → demand b refusal after ≡ 0 → (b ≡ true) × (after ≡ 0)
met true refusal after some h = (refl, h)
met false refusal after some h = absurd (omega arith)

-- a first refusal is the answer
pub or_first : (a b : ℕ) → (a ≡ 0 → ⊥) → a ≡ or_else a b
or_first zero b h = absurd (h refl)
or_first (suc a) b h = refl

-- neither of two refused
pub neither : (a b : ℕ) → or_else a b ≡ 0 → (a ≡ 0) × (b ≡ 0)
neither zero b h = (refl, h)
neither (suc a) b h = absurd (omega arith)

-- a refused call leaves lent memory as it was
pub unstored : (r : ℕ) (numbers lent : List ℕ) → (r ≡ 0 → ⊥) → lent ≡ stored r numbers lent
unstored zero numbers lent h = absurd (h refl)
unstored (suc r) numbers lent h = refl

-- no refusal has the number of none
pub number_some : (r : Refusal) → 0 < number_of r
number_some r = grind arith

-- the refusals at the places that their numbers name
every : List Refusal
every =
    TooShort ∷ TooShort ∷ UnknownMark ∷ OtherEdition ∷ TooMany ∷ WrongLength ∷ BadField ∷ WrongWrites ∷ OutOfRange ∷ NoReferenceLeft
    ∷ NoFrame ∷ NotPinned ∷ PinsFull ∷ NoRoom ∷ NotSound ∷ OtherSettings ∷ OtherSettings ∷ HasPins ∷ []

named : (r : Refusal) → get_or every (number_of r) TooShort ≡ r
unfolding every
named TooShort = refl
named UnknownMark = refl
named OtherEdition = refl
named TooMany = refl
named WrongLength = refl
named BadField = refl
named WrongWrites = refl
named OutOfRange = refl
named NoReferenceLeft = refl
named NoFrame = refl
named NotPinned = refl
named PinsFull = refl
named NoRoom = refl
named NotSound = refl
named OtherSettings = refl
named HasPins = refl

-- no two refusals share a number
pub number_injective : (r q : Refusal) → number_of r ≡ number_of q → r ≡ q
number_injective r q e = sym (named r) ∙ ap (λ (n : ℕ). get_or every n TooShort) e ∙ named q

-- an answer of 0 refuses nothing
pub answer_none : {T : Type 0} (a : Result T Refusal) (r : Refusal) → a ≡ Err r → answer_of a ≡ 0 → ⊥
answer_none a r e h = let some = number_some r in let n : number_of r ≡ 0 = rw e at h in omega arith

-- two answers with one number are the same
pub answer_one : (a b : Result (Unit {0}) Refusal) → answer_of a ≡ answer_of b → a ≡ b
answer_one (Ok x) (Ok y) e = refl
answer_one (Ok x) (Err q) e = absurd (answer_none {T = Unit {0}} (Err q) q refl (sym e))
answer_one (Err r) (Ok y) e = absurd (answer_none {T = Unit {0}} (Err r) r refl e)
answer_one (Err r) (Err q) e = ap Err (number_injective r q e)

-- a `?` passes on the refusal that it met, or what is made of it
pub passed_on : {T E : Type 0} (a : Result T E) (r : E) → IsErr a × IsErrAnd a (λ e. e ≡ r) → a ≡ Err r
passed_on a r h = let p = err_from_is_err_and a h.1 in p.1 ∙ ap Err p.2

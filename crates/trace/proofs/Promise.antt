-- The checker's answer comes with its promise.
use mathlib.Core.Path.{◌≡◌, sym, ◌∙◌}
use mathlib.Core.List.{List}
use Prim.Native.Nat.{ℕ}
use Rattle.word.proofs.Laws.{Bytes}
use Rattle.trace.specs.Check.{decode, check_of, Promised, Promises, Checked}
use Rattle.trace.specs.declared.Summary.{Summary}
use Rattle.trace.specs.Check.Checked.{Accepted}
use Rattle.trace.proofs.Accept.{accepted}
use Rattle.trace.proofs.Whole.{proper}

promised : (s : List ℕ) (h : Summary) → Bytes s → check_of s ≡ Accepted h → Promised s h
unfolding decode
promised s h bs e = let a = accepted s h e in record { decodes = rw a.0; summary = a.1; holds = proper s bs a.0 }

pub with_promise : (s : List ℕ) (answer : Checked) → Bytes s → answer ≡ check_of s → (answer ≡ check_of s) × Promises s answer
with_promise s answer bs e = (e, λ h a. promised s h bs (sym e ∙ a))

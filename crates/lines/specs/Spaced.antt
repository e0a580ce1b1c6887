-- The text of a list: each item after a space.
use Rattle.std.specs.Prelude.{ℕ, List, [], ◌∷◌, Option, Some}
use Rattle.std.specs.Fmt.{◌++?◌}

-- a text, and each item's behind it after a space, where all of them are known
abbrev pub spaced_behind : {T : Type 0} → (T → Option (List ℕ)) → Option (List ℕ) → List T → Option (List ℕ)
spaced_behind output before [] = before
spaced_behind output before (x ∷ xs) = spaced_behind output (before ++? (Some (32 ∷ []) ++? output x)) xs

-- each item's text after a space
abbrev pub spaced : {T : Type 0} → (T → Option (List ℕ)) → List T → Option (List ℕ)
spaced output xs = spaced_behind output (Some []) xs

-- Reference: a log in its flat array, newest first, from place `at` on.
use Rattle.std.specs.Prelude.{ℕ, ◌+◌, min, Bool, ◌&&◌, ◌||◌, not, List, ◌∷◌, get_or, drop, replicate, eqb, ltb}
use Rattle.std.proofs.Math.Seq.{paste}
use Rattle.search.specs.Search.{pick}

-- the n places from `at` on hold `epoch` and then what stood there
unfoldable pub put_front : List ℕ → ℕ → ℕ → ℕ → List ℕ
put_front a at n epoch = paste a at (epoch ∷ drop at a) n

-- the n places from `at` on are zero
unfoldable pub cleared : List ℕ → ℕ → ℕ → List ℕ
cleared a at n = paste a at (replicate n 0) n

-- one entry more, the oldest falling out of a full log
abbrev pub grown : ℕ → ℕ → ℕ
grown room n = min (n + 1) room

-- now is put at the front if the newest entry differs, and where it is asked for: else the log stays
abbrev pub stays : Bool → ℕ → ℕ → ℕ → Bool
stays on n newest epoch = not on || (ltb 0 n && eqb newest epoch)

-- the length of the log of n entries at `at` afterwards
unfoldable pub length_with : List ℕ → ℕ → ℕ → ℕ → ℕ → Bool → ℕ
length_with a at room n epoch on = pick (stays on n (get_or a at 0) epoch) n (grown room n)

-- the array of the logs afterwards
unfoldable pub log_with : List ℕ → ℕ → ℕ → ℕ → ℕ → Bool → List ℕ
log_with a at room n epoch on = pick (stays on n (get_or a at 0) epoch) a (put_front a at (grown room n) epoch)

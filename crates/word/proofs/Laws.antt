-- Laws of numbers as bytes, each over the width.
use mathlib.Core.Path.{◌≡◌, refl, sym, ap, ◌∙◌}
use mathlib.Core.List.{List, [], ◌∷◌, ◌++◌, reverse, reverse_aux, reverse-reverse}
use Prim.Native.Nat.{ℕ, zero, suc, ◌+◌, ◌*◌, ◌/◌, ◌%◌, ◌^◌, ◌≤◌, ◌<◌}
use native.Mathlib.Nat.{pow-suc}
use native.Mathlib.Numerals.{add-one}
use native.Mathlib.Omega.{arith}
use lib.ListN.{length, get_or, take, drop, set, length-drop, length-reverse}
use lib.Seq.{drop-cons, sets, sets-eq, take_at, length-take-le}
use Rattle.word.specs.Number.{number_low, number_of, bytes_low, bytes_of, number_at}
use Rattle.word.specs.declared.Order.{Order}
use Rattle.word.specs.declared.Order.TheVariants.{High, Low}

-- the w elements from at + k, one by one: at numerals k and w it computes to a list that is written out
abbrev later : List ℕ → ℕ → ℕ → ℕ → List ℕ
later s at k zero = []
later s at k (suc w) = get_or s (at + k) 0 ∷ later s at (k + 1) w

abbrev pub from : ℕ → ℕ → List ℕ → List ℕ
from zero at s = []
from (suc w) at s = get_or s at 0 ∷ later s at 1 w

part_later : (w : ℕ) (s : List ℕ) (at k : ℕ) → at + k + w ≤ length s → take w (drop (at + k) s) ≡ later s at k w
part_later zero s at k h = refl
part_later (suc w) s at k h =
    let lt : at + k < length s = omega arith in
    let e : suc (at + k) ≡ at + (k + 1) = omega arith in
    let h' : at + (k + 1) + w ≤ length s = omega arith in
    rw (drop-cons s (at + k) 0 lt, e) (ap (λ (l : List ℕ). get_or s (at + k) 0 ∷ l) (part_later w s at (k + 1) h'))

-- the w bytes from at, written out
pub part : (w at : ℕ) (s : List ℕ) → at + w ≤ length s → take w (drop at s) ≡ from w at s
part zero at s h = refl
part (suc w) at s h =
    let lt : at < length s = omega arith in
    let h' : at + 1 + w ≤ length s = omega arith in
    rw (drop-cons s at 0 lt, ← add-one at) (ap (λ (l : List ℕ). get_or s at 0 ∷ l) (part_later w s at 1 h'))

-- each element is a byte
abbrev pub Bytes : List ℕ → Type 0
Bytes [] = Unit {0}
Bytes (b ∷ bs) = (b < 256) × Bytes bs

-- ---- reading what was written, and writing what was read: once over the width, and over the order by the reverse

low_back : (w v : ℕ) → v < 256 ^ w → number_low (bytes_low w v) ≡ v
low_back zero v h = omega arith
low_back (suc w) v h =
    let h' : v < 256 ^ w * 256 = rw pow-suc at h in
    let e : number_low (bytes_low w (v / 256)) ≡ v / 256 = low_back w (v / 256) (omega arith) in
    omega arith

pub number_back : (o : Order) (w v : ℕ) → v < 256 ^ w → number_of o (bytes_of o w v) ≡ v
number_back High w v h = rw (reverse-reverse (bytes_low w v)) (low_back w v h)
number_back Low w v h = low_back w v h

low_again : (l : List ℕ) → Bytes l → bytes_low (length l) (number_low l) ≡ l
low_again [] h = refl
low_again (b ∷ bs) h =
    let lt : b < 256 = h.0 in
    let m : (b + 256 * number_low bs) % 256 ≡ b = omega arith in
    let d : (b + 256 * number_low bs) / 256 ≡ number_low bs = omega arith in
    rw (m, d, low_again bs h.1)

bytes_aux : (l r : List ℕ) → Bytes l → Bytes r → Bytes (reverse_aux l r)
bytes_aux [] r h k = k
bytes_aux (b ∷ l) r h k = bytes_aux l (b ∷ r) h.1 (h.0, k)

pub bytes_reverse : (l : List ℕ) → Bytes l → Bytes (reverse l)
bytes_reverse l h = bytes_aux l [] h tt

-- a list whose numbers are all below 256 is one of bytes
pub bytes_of_lem : (l : List ℕ) → ((i : ℕ) → get_or l i 0 < 256) → Bytes l
bytes_of_lem [] h = tt
bytes_of_lem (b ∷ l) h = (h 0, bytes_of_lem l (λ i. h (suc i)))

pub bytes_drop : (n : ℕ) (l : List ℕ) → Bytes l → Bytes (drop n l)
bytes_drop zero l h = h
bytes_drop (suc n) [] h = tt
bytes_drop (suc n) (b ∷ l) h = bytes_drop n l h.1

pub bytes_take : (n : ℕ) (l : List ℕ) → Bytes l → Bytes (take n l)
bytes_take zero l h = tt
bytes_take (suc n) [] h = tt
bytes_take (suc n) (b ∷ l) h = (h.0, bytes_take n l h.1)

pub bytes_again : (o : Order) (w : ℕ) (l : List ℕ) → length l ≡ w → Bytes l → bytes_of o w (number_of o l) ≡ l
bytes_again High w l e h =
    rw (← e, ← length-reverse l, low_again (reverse l) (bytes_reverse l h)) (reverse-reverse l)
bytes_again Low w l e h = rw (← e) (low_again l h)

-- ---- lengths, and runs of stores

length_low : (w v : ℕ) → length (bytes_low w v) ≡ w
length_low zero v = refl
length_low (suc w) v = ap suc (length_low w (v / 256))

pub length_bytes : (o : Order) (w v : ℕ) → length (bytes_of o w v) ≡ w
length_bytes High w v = length-reverse (bytes_low w v) ∙ length_low w v
length_bytes Low w v = length_low w v

-- a run of stores after another is one run
sets_more {ℓ} : {A : Type ℓ} (xs ys l : List A) (i j : ℕ) → j ≡ i + length xs → sets (sets l i xs) j ys ≡ sets l i (xs ++ ys)
sets_more [] ys l i j e = let e' : j ≡ i = omega arith in rw e'
sets_more (x ∷ xs) ys l i j e = sets_more xs ys (set l i x) (suc i) j (omega arith)

-- the same from right to left: a run of stores in two, for `simp`
pub sets_append {ℓ} : {A : Type ℓ} (xs ys l : List A) (i : ℕ) → sets l i (xs ++ ys) ≡ sets (sets l i xs) (i + length xs) ys
sets_append xs ys l i = sym (sets_more xs ys l i (i + length xs) refl)

-- what a run of stores at the front left there
pub sets_front : (l xs : List ℕ) (n : ℕ) → length xs ≡ n → n ≤ length l → take n (sets l 0 xs) ≡ xs
sets_front l xs n e h = rw (sets-eq xs l 0 (omega arith)) (take_at xs _ n e)

-- ---- a number of w bytes is below 256 ^ w

low_lt : (l : List ℕ) → Bytes l → number_low l < 256 ^ length l
low_lt [] h = omega arith
low_lt (b ∷ bs) h =
    let lt : b < 256 = h.0 in
    let ih = low_lt bs h.1 in
    rw pow-suc (omega arith)

pub number_lt : (o : Order) (l : List ℕ) → Bytes l → number_of o l < 256 ^ length l
number_lt High l h = rw (length-reverse l) at (low_lt (reverse l) (bytes_reverse l h))
number_lt Low l h = low_lt l h

pub number_at_lt : (o : Order) (w at : ℕ) (s : List ℕ) → Bytes s → at + w ≤ length s → number_at o w at s < 256 ^ w
number_at_lt o w at s bs h =
    let l : w ≤ length (drop at s) = simp length-drop (omega arith) in
    rw (length-take-le w (drop at s) l) at (number_lt o (take w (drop at s)) (bytes_take w (drop at s) (bytes_drop at s bs)))

-- A number's decimal digits: how many there are.
use mathlib.Core.Path.{◌≡◌, refl, sym, ◌∙◌}
use mathlib.Core.Bool.{Bool, true, false}
use mathlib.Core.List.{List, [], ◌∷◌}
use Prim.Native.Nat.{ℕ, zero, suc, ◌*◌, ◌-◌, ◌/◌, ◌%◌, ◌^◌, ◌≤◌, ◌<◌}
use native.Mathlib.Nat.{pow-suc}
use native.Mathlib.Omega.{arith}
use lib.Dec.{ltb}
use lib.ListN.{length, length-append}
use borrow.Author.Tests.{ltb-true, ltb-false}
use Rattle.io.specs.Digits.{hex_digit_ascii, last_digits, IsDigitCount}
use Rattle.text.specs.Text.{places, decimal_of}

-- ten at least, where there is more than one digit
tens : (k : ℕ) → 10 ≤ 10 ^ suc k
tens zero = omega arith
tens (suc k) = let h = tens k in rw pow-suc (omega arith)

-- below ten there is one digit
one_digit : (n r : ℕ) → n < 10 → IsDigitCount 10 1 n r → r ≡ 1
one_digit n zero h f = absurd (let z = f.0 in omega arith)
one_digit n (suc zero) h f = refl
one_digit n (suc (suc q)) h f =
    let e : suc (suc q) - 1 ≡ suc q = omega arith in
    let p : 10 ^ suc q ≤ n = rw e at (f.2 (omega arith)) in
    absurd (omega (arith, tens q))

pub places_fewest : (k n r : ℕ) → n < 10 ^ suc k → IsDigitCount 10 1 n r → r ≡ places k n
places_fewest zero n r h f = one_digit n r (omega arith) f
places_fewest (suc k) n r h f = go (ltb n 10) refl r f (places_fewest k (n / 10))
  where
    go : (b : Bool) → ltb n 10 ≡ b → (r : ℕ) → IsDigitCount 10 1 n r → ((q : ℕ) → n / 10 < 10 ^ suc k → IsDigitCount 10 1 (n / 10) q → q ≡ places k (n / 10)) → r ≡ places (suc k) n
    go true e r f i = one_digit n r (ltb-true n 10 e) f ∙ sym (rw e)
    go false e zero f i = absurd (let z = f.0 in omega arith)
    go false e (suc zero) f i = absurd (let z = f.1 in let y = ltb-false n 10 e in omega arith)
    go false e (suc (suc q)) f i =
        let one : suc (suc q) - 1 ≡ suc q = omega arith in
        let less : suc q - 1 ≡ q = omega arith in
        let most : n < 10 ^ suc q * 10 = rw pow-suc at f.1 in
        let least : 10 ^ q * 10 ≤ n = rw pow-suc at (rw one at (f.2 (omega arith))) in
        let all : n < 10 ^ suc k * 10 = rw pow-suc at h in
        let rest = i (suc q) (omega arith) (omega arith, omega arith, λ z. rw less (omega arith)) in
        rw (e, rest)

pub length_digits : (b k n : ℕ) → length (last_digits b k n) ≡ k
length_digits b zero n = refl
length_digits b (suc k) n = length-append (last_digits b k (n / b)) (hex_digit_ascii (n % b) ∷ []) ∙ rw (length_digits b k (n / b)) (omega arith)

places_few : (k n : ℕ) → places k n ≤ suc k
places_few zero n = omega arith
places_few (suc k) n = go (ltb n 10) refl (places_few k (n / 10))
  where
    go : (b : Bool) → ltb n 10 ≡ b → places k (n / 10) ≤ suc k → places (suc k) n ≤ suc (suc k)
    go true e i = rw e (omega arith)
    go false e i = rw e (omega arith)

-- a number of 4 bytes has at most ten digits
pub decimal_few : (n : ℕ) → length (decimal_of n) ≤ 10
unfolding decimal_of
decimal_few n = rw (length_digits 10 (places 9 n) n) (places_few 9 n)

-- the digits that `io` gives
pub decimal_is : (n r : ℕ) (l : List ℕ) → n < 4294967296 → IsDigitCount 10 1 n r → l ≡ last_digits 10 r n → l ≡ decimal_of n
unfolding decimal_of
decimal_is n r l h f e = e ∙ rw (places_fewest 9 n r (omega arith) f)

-- so many places hold the number, and there is one at least
pub places_hold : (k n : ℕ) → n < 10 ^ suc k → (n < 10 ^ places k n) × (1 ≤ places k n)
places_hold zero n h = (h, omega arith)
places_hold (suc k) n h = go (ltb n 10) refl (places_hold k (n / 10))
  where
    go : (b : Bool) → ltb n 10 ≡ b → (n / 10 < 10 ^ suc k → (n / 10 < 10 ^ places k (n / 10)) × (1 ≤ places k (n / 10))) → (n < 10 ^ places (suc k) n) × (1 ≤ places (suc k) n)
    go true e i = let l = ltb-true n 10 e in rw e (omega arith, omega arith)
    go false e i =
        let all : n < 10 ^ suc k * 10 = rw pow-suc at h in
        let r = (i (omega arith)).0 in
        rw e (rw pow-suc (omega arith), omega arith)

-- A number at a place of a list: reading what was written, and writing what was read, over the width, and at 2 and 4 bytes.
use mathlib.Core.Path.{◌≡◌}
use mathlib.Core.List.{List, ◌++◌, append_assoc}
use Prim.Native.Nat.{ℕ, ◌+◌, ◌^◌, ◌≤◌, ◌<◌}
use native.Mathlib.Omega.{arith}
use lib.ListN.{length, take, drop, length-drop, take-append-drop}
use lib.Seq.{sets, sets-eq, length-take-le, take_at, drop_at, drop-drop, drop-append-le, take-append-le, drop-append-add}
use Rattle.word.specs.Number.{number_at, bytes_of}
use Rattle.word.proofs.Laws.{Bytes, number_back, bytes_again, length_bytes, bytes_take, bytes_drop}
use Rattle.word.specs.declared.Order.{Order}

module _ (o : Order) (w at : ℕ) (l : List ℕ) (h : at + w ≤ length l) where
  -- reading what was written gives the number
  pub read_written : (v : ℕ) → v < 256 ^ w → number_at o w at (sets l at (bytes_of o w v)) ≡ v
  read_written v fits =
      let n = length_bytes o w v in
      let rest = drop (at + w) l in
      rw (
        sets-eq (bytes_of o w v) l at (omega arith),
        n,
        append_assoc,
        drop_at (take at l) (bytes_of o w v ++ rest) at (length-take-le at l (omega arith)),
        take_at (bytes_of o w v) rest w n,
      )
      (number_back o w v fits)

  -- writing what was read changes nothing
  pub written_read : Bytes l → sets l at (bytes_of o w (number_at o w at l)) ≡ l
  written_read bs =
      let left : w ≤ length (drop at l) = simp length-drop (omega arith) in
      let n = length-take-le w (drop at l) left in
      rw (
        bytes_again o w (take w (drop at l)) n (bytes_take w (drop at l) (bytes_drop at l bs)),
        sets-eq (take w (drop at l)) l at (omega arith),
        n,
        append_assoc,
        ← drop-drop w at l,
        take-append-drop w (drop at l),
      )
      (take-append-drop at l)

-- the two widths of a trace
module _ (o : Order) (at : ℕ) (l : List ℕ) where
  pub read_written_2 : at + 2 ≤ length l → (v : ℕ) → v < 65536 → number_at o 2 at (sets l at (bytes_of o 2 v)) ≡ v
  read_written_2 h = read_written o 2 at l h

  pub read_written_4 : at + 4 ≤ length l → (v : ℕ) → v < 4294967296 → number_at o 4 at (sets l at (bytes_of o 4 v)) ≡ v
  read_written_4 h = read_written o 4 at l h

  pub written_read_2 : at + 2 ≤ length l → Bytes l → sets l at (bytes_of o 2 (number_at o 2 at l)) ≡ l
  written_read_2 h = written_read o 2 at l h

  pub written_read_4 : at + 4 ≤ length l → Bytes l → sets l at (bytes_of o 4 (number_at o 4 at l)) ≡ l
  written_read_4 h = written_read o 4 at l h

-- ---- a place in the front, and a place behind

pub in_front : (o : Order) (w at : ℕ) (xs ys : List ℕ) → at + w ≤ length xs → number_at o w at (xs ++ ys) ≡ number_at o w at xs
in_front o w at xs ys h =
    let h₁ : at ≤ length xs = omega arith in
    let h₂ : w ≤ length (drop at xs) = simp length-drop (omega arith) in
    rw (drop-append-le at xs ys h₁, take-append-le w (drop at xs) ys h₂)

pub behind : (o : Order) (w k m : ℕ) (xs ys : List ℕ) → length xs ≡ m → number_at o w (m + k) (xs ++ ys) ≡ number_at o w k ys
behind o w k m xs ys e = rw (← e, drop-append-add)

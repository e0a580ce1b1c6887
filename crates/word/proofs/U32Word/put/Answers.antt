use Rattle.std.proofs.Common.{◌≡◌, ◌+◌, ◌-◌, ◌/◌, ◌≤◌, ℕ, List, length, arith, append_assoc}
use Rattle.std.specs.Int.{w32, to_le_bytes, to_be_bytes}
use borrow.Rule.Slice.PartMut.{put_mid}
use lib.Seq.{sets, sets-eq, drop-drop}
use Rattle.word.specs.Number.{bytes_of}
use Rattle.word.specs.declared.Order.TheVariants.{High, Low}
use Rattle.word.proofs.Laws.{length_bytes}
use Rattle.word.proofs.U32Word.put.Goals as goal

low : (v : ℕ) → to_le_bytes w32 v ≡ bytes_of Low 4 v
low v =
    let a : v / 65536 ≡ v / 256 / 256 = omega arith in
    let b : v / 16777216 ≡ v / 256 / 256 / 256 = omega arith in
    rw (a, b)

high : (v : ℕ) → to_be_bytes w32 v ≡ bytes_of High 4 v
high v =
    let a : v / 65536 ≡ v / 256 / 256 = omega arith in
    let b : v / 16777216 ≡ v / 256 / 256 / 256 = omega arith in
    rw (a, b)

-- what is stored in a part of four stands there
part : (l xs : List ℕ) (at : ℕ) → at + 4 ≤ length l → length xs ≡ 4 → put_mid at (at + 4 - at) l xs ≡ sets l at xs
part l xs at h n =
    let k : at + 4 - at ≡ 4 = omega arith in
    rw (k, sets-eq xs l at (omega arith), n, ← drop-drop 4 at l, append_assoc)

pub returns-in-High : goal.returns-in-High
returns-in-High c =
    let a = c.args in
    let e : c.copy_from_slice.new.self ≡ bytes_of High 4 a.v = cc (c.copy_from_slice.ensures.after, high a.v) in
    rw (c.in-High.is, e)
    (part a.out.now (bytes_of High 4 a.v) a.at c.requires (length_bytes High 4 a.v))

pub returns-in-Low : goal.returns-in-Low
returns-in-Low c =
    let a = c.args in
    let e : c.copy_from_slice-in-Low.new.self ≡ bytes_of Low 4 a.v = cc (c.copy_from_slice-in-Low.ensures.after, low a.v) in
    rw (c.in-Low.is, e)
    (part a.out.now (bytes_of Low 4 a.v) a.at c.requires (length_bytes Low 4 a.v))

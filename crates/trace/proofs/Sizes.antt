-- How long the parts of an encoding are.
use mathlib.Core.Path.{◌≡◌, refl}
use mathlib.Core.List.{List}
use Prim.Native.Nat.{ℕ, zero, suc, ◌*◌}
use native.Mathlib.Omega.{arith}
use lib.ListN.{length, get_or, length-append}
use Rattle.word.specs.declared.Order.{Order}
use Rattle.word.specs.declared.Order.TheVariants.{High, Low}
use Rattle.word.proofs.Laws.{length_bytes}
use Rattle.settings.specs.declared.Settings.{Settings}
use Rattle.settings.proofs.Places.{length_settings}
use Rattle.trace.specs.Layout.{Trace, file_length, writes_in}
use Rattle.trace.specs.Encode.{mark_bytes, front_bytes, header_bytes, record_bytes, records_to, encode}

pub length_mark : (o : Order) → length (mark_bytes o) ≡ 4
length_mark High = refl
length_mark Low = refl

pub length_front : (o : Order) (n writes : ℕ) → length (front_bytes o n writes) ≡ 24
length_front o n writes = simp (length-append, length_bytes, length_mark)

pub length_header : (o : Order) (t : Settings) (n writes : ℕ) → length (header_bytes o t n writes) ≡ 48
unfolding header_bytes
length_header o t n writes = simp (length-append, length_bytes, length_mark, length_settings)

length_record : (o : Order) (page kind : ℕ) → length (record_bytes o page kind) ≡ 8
unfolding record_bytes
length_record o page kind = simp (length-append, length_bytes)

pub length_records : (o : Order) (pages kinds : List ℕ) (i : ℕ) → length (records_to o pages kinds i) ≡ 8 * i
length_records o pages kinds zero = refl
length_records o pages kinds (suc i) =
    rw (length-append (records_to o pages kinds i) (record_bytes o (get_or pages i 0) (get_or kinds i 0)), length_record o (get_or pages i 0) (get_or kinds i 0), length_records o pages kinds i)
    (omega arith)

pub length_encode : (t : Trace) → length (encode t) ≡ file_length (length t.pages)
unfolding encode
length_encode t =
    let n = length t.pages in
    rw (
      length-append (header_bytes t.order t.settings n (writes_in t.kinds)) (records_to t.order t.pages t.kinds n),
      length_header t.order t.settings n (writes_in t.kinds),
      length_records t.order t.pages t.kinds n,
    )

-- What is written is bytes: each number of an encoding is its own remainder by 256.
use mathlib.Core.Path.{◌≡◌, refl, ap, sym, ◌∙◌}
use mathlib.Core.List.{List, [], ◌∷◌, map, reverse, reverse_aux, map-append}
use Prim.Native.Nat.{ℕ, zero, suc, ◌/◌, ◌%◌, ◌<◌}
use native.Mathlib.Omega.{arith}
use lib.ListN.{length, get_or, get_or-map}
use Rattle.word.specs.Number.{bytes_low, bytes_of}
use Rattle.word.specs.declared.Order.{Order}
use Rattle.word.specs.declared.Order.TheVariants.{High, Low}
use Rattle.settings.specs.Settings.{Field, the_fields, field_bytes, settings_bytes}
use Rattle.settings.specs.declared.Settings.{Settings}
use Rattle.trace.specs.Layout.{Trace, writes_in}
use Rattle.trace.specs.Encode.{mark_bytes, header_bytes, record_bytes, records_to, encode}

abbrev remainder : ℕ → ℕ
remainder b = b % 256

low_remains : (w v : ℕ) → map remainder (bytes_low w v) ≡ bytes_low w v
low_remains zero v = refl
low_remains (suc w) v = rw (low_remains w (v / 256)) (ap (λ (b : ℕ). b ∷ bytes_low w (v / 256)) (omega arith))

turned : (l r : List ℕ) → map remainder (reverse_aux l r) ≡ reverse_aux (map remainder l) (map remainder r)
turned [] r = refl
turned (b ∷ l) r = turned l (b ∷ r)

number_remains : (o : Order) (w v : ℕ) → map remainder (bytes_of o w v) ≡ bytes_of o w v
number_remains High w v = turned (bytes_low w v) [] ∙ ap (λ (l : List ℕ). reverse l) (low_remains w v)
number_remains Low w v = low_remains w v

mark_remains : (o : Order) → map remainder (mark_bytes o) ≡ mark_bytes o
mark_remains High = refl
mark_remains Low = refl

fields_remain : (o : Order) (fs : List Field) (t : Settings) → map remainder (field_bytes o fs t) ≡ field_bytes o fs t
fields_remain o [] t = refl
fields_remain o (f ∷ fs) t =
    map-append remainder (bytes_of o f.width (f.number t)) (field_bytes o fs t)
    ∙ rw (number_remains o f.width (f.number t), fields_remain o fs t)

settings_remain : (o : Order) (t : Settings) → map remainder (settings_bytes o t) ≡ settings_bytes o t
unfolding settings_bytes
settings_remain o t = fields_remain o the_fields t

header_remains : (o : Order) (t : Settings) (n writes : ℕ) → map remainder (header_bytes o t n writes) ≡ header_bytes o t n writes
unfolding header_bytes
header_remains o t n writes = simp (map-append, number_remains, mark_remains, settings_remain)

record_remains : (o : Order) (page kind : ℕ) → map remainder (record_bytes o page kind) ≡ record_bytes o page kind
unfolding record_bytes
record_remains o page kind = simp (map-append, number_remains)

records_remain : (o : Order) (pages kinds : List ℕ) (i : ℕ) → map remainder (records_to o pages kinds i) ≡ records_to o pages kinds i
records_remain o pages kinds zero = refl
records_remain o pages kinds (suc i) =
    map-append remainder (records_to o pages kinds i) (record_bytes o (get_or pages i 0) (get_or kinds i 0))
    ∙ rw (records_remain o pages kinds i, record_remains o (get_or pages i 0) (get_or kinds i 0))

encode_remains : (t : Trace) → map remainder (encode t) ≡ encode t
unfolding encode
encode_remains t =
    let n = length t.pages in
    map-append remainder (header_bytes t.order t.settings n (writes_in t.kinds)) (records_to t.order t.pages t.kinds n)
    ∙ rw (header_remains t.order t.settings n (writes_in t.kinds), records_remain t.order t.pages t.kinds n)

pub encode_bytes : (t : Trace) (i : ℕ) → get_or (encode t) i 0 < 256
encode_bytes t i =
    let e : get_or (encode t) i 0 ≡ get_or (encode t) i 0 % 256 = ap (λ (l : List ℕ). get_or l i 0) (sym (encode_remains t)) ∙ get_or-map remainder (encode t) i 0 in
    omega arith

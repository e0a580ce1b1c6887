-- Laws of the writer and the converter.
use mathlib.Core.Path.{◌≡◌}
use mathlib.Core.List.{List}
use mathlib.Core.Bool.{◌&&◌, and-eq-true_iff}
use Prim.Native.Nat.{ℕ, ◌+◌, ◌*◌, ◌≤◌, ◌<◌}
use native.Mathlib.Numerals.{add-one}
use native.Mathlib.Omega.{arith}
use lib.ListN.{length, get_or, take}
use lib.Seq.{sets, take-suc}
use lib.Dec.{eqb, leb}
use borrow.Author.Tests.{leb-true, eqb-true, le-leb, eq-eqb}
use Rattle.word.specs.declared.Order.{Order}
use Rattle.word.proofs.Laws.{sets_append}
use Rattle.refusal.specs.Refusals.{demand, bad_field, no_room, out_of_range, too_many, wrong_length}
use Rattle.refusal.proofs.Laws.{met}
use Rattle.settings.specs.Settings.{in_range}
use Rattle.trace.specs.Layout.{Trace, record_limit, file_length, is_write, known_kind, known_kinds, writes_in}
use Rattle.trace.specs.Encode.{header_bytes, record_bytes, records_to, encode, Proper}
use Rattle.trace.proofs.Lists.{writes_snoc, known_snoc}
use Rattle.trace.proofs.Sizes.{length_header, length_records}
use Rattle.scribe.specs.Write.{write_refusal}

-- a turn of the pass over the kinds
pub writes_more : (l : List ℕ) (i : ℕ) → i < length l → writes_in (take (i + 1) l) ≡ writes_in (take i l) + is_write (get_or l i 0)
writes_more l i h = rw (add-one, take-suc l i 0 h) (writes_snoc (take i l) (get_or l i 0))

pub known_more : (l : List ℕ) (i : ℕ) → i < length l → known_kinds (take (i + 1) l) ≡ (known_kinds (take i l) && known_kind (get_or l i 0))
known_more l i h = rw (add-one, take-suc l i 0 h) (known_snoc (take i l) (get_or l i 0))

-- a turn of the loop that writes the records
pub records_more : (o : Order) (pages kinds out₀ out out' : List ℕ) (i : ℕ) → out ≡ sets out₀ 48 (records_to o pages kinds i)
    → out' ≡ sets out (48 + 8 * i) (record_bytes o (get_or pages i 0) (get_or kinds i 0)) → out' ≡ sets out₀ 48 (records_to o pages kinds (i + 1))
records_more o pages kinds out₀ out out' i e e' =
    rw (e', e, add-one, sets_append, length_records o pages kinds i)

-- the header and then the records are the encoding
pub encode_stores : (t : Trace) (n writes : ℕ) (out mid out' : List ℕ) → n ≡ length t.pages → writes ≡ writes_in t.kinds
    → mid ≡ sets out 0 (header_bytes t.order t.settings n writes) → out' ≡ sets mid 48 (records_to t.order t.pages t.kinds n)
    → out' ≡ sets out 0 (encode t)
unfolding encode
encode_stores t n writes out mid out' l w m d = rw (d, m, l, w) (simp (sets_append, length_header))

-- a writer that refuses nothing has room for a trace that the layout can hold, if its numbers fit their widths
pub granted : (t : Trace) (room : ℕ) → t.settings.seed < 4294967296 → ((i : ℕ) → get_or t.pages i 0 < 4294967296) → write_refusal t room ≡ 0
    → Proper t × (file_length (length t.pages) ≤ room)
unfolding write_refusal
granted t room seed page h =
    let p = length t.pages in
    let k = length t.kinds in
    let size = demand (leb (file_length p) room) no_room 0 in
    let range = demand (in_range t.settings) out_of_range size in
    let known = demand (known_kinds t.kinds) bad_field range in
    let same = demand (eqb p k) wrong_length known in
    let h4 = met (leb p record_limit && leb k record_limit) too_many same (omega arith) h in
    let h5 = met (eqb p k) wrong_length known (omega arith) h4.1 in
    let h6 = met (known_kinds t.kinds) bad_field range (omega arith) h5.1 in
    let h8 = met (in_range t.settings) out_of_range size (omega arith) h6.1 in
    let h13 = met (leb (file_length p) room) no_room 0 (omega arith) h8.1 in
    let few = leb-true p record_limit ((and-eq-true_iff (leb p record_limit) (leb k record_limit)).0 h4.0).0 in (
      record { same = eqb-true p k h5.0; few = few; known = h6.0; range = h8.0; seed = seed; page = page },
      leb-true (file_length p) room h13.0,
    )

-- and refuses no such trace
pub grants : (t : Trace) (room : ℕ) → Proper t → file_length (length t.pages) ≤ room → write_refusal t room ≡ 0
unfolding write_refusal
grants t room p fits =
    let few : length t.kinds ≤ record_limit = rw (← p.same) p.few in
    rw (
      le-leb (length t.pages) record_limit p.few,
      le-leb (length t.kinds) record_limit few,
      eq-eqb (length t.pages) (length t.kinds) p.same,
      p.known,
      p.range,
      le-leb (file_length (length t.pages)) room fits,
    )

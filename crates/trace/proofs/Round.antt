-- Reading what was encoded gives the trace back.
use mathlib.Core.Path.{◌≡◌, refl, sym, ap, ◌∙◌}
use mathlib.Core.List.{List, ◌++◌, append_assoc}
use mathlib.Core.Logic.{⊎_elim, ◌⊎◌}
use Prim.Native.Nat.{ℕ, zero, suc, ◌+◌, ◌*◌, ◌≤◌, ◌<◌}
use native.Mathlib.Nat.{add-zero, add_assoc, eq-or-lt_of_le}
use native.Mathlib.Omega.{arith}
use lib.ListN.{length, get_or}
use borrow.Author.Tests.{eq-eqb, le-leb}
use Rattle.std.specs.Prelude.{Some}
use Rattle.word.specs.Number.{number_at, number_of, bytes_of}
use Rattle.word.specs.declared.Order.{Order}
use Rattle.word.specs.declared.Order.TheVariants.{High, Low}
use Rattle.word.proofs.Laws.{number_back}
use Rattle.word.proofs.Places.{in_front, behind}
use Rattle.settings.specs.declared.Settings.{Settings}
use Rattle.settings.specs.Settings.{settings_bytes}
use Rattle.settings.proofs.Places.{settings_back}
use Rattle.trace.specs.Layout.{Trace, record_limit, header_length, file_length, mark_of, edition_at, first_zero_at, count_at, offset_at, writes_at, length_at, last_zero_at, settings_in, page_at, kind_at, zero_at, up_to, writes_in, trace_at}
use Rattle.trace.specs.Encode.{front_bytes, header_bytes, record_bytes, records_to, encode, Proper}
use Rattle.trace.specs.Check.{layout_refusal, content_refusal, refusal_in, refusal_of, trace_of, decode}
use Rattle.trace.specs.Check.Outcome.{Whole}
use Rattle.trace.proofs.Lists.{up_to_is, all_zero_lem, writes_le, known_le}
use Rattle.trace.proofs.Accept.{trace_is}
use Rattle.trace.proofs.Sizes.{length_front, length_header, length_records, length_encode}

-- a field of record i, among the first n
record_read : (o : Order) (pages kinds : List ℕ) (w k i n : ℕ) → k + w ≤ 8 → i < n
    → number_at o w (8 * i + k) (records_to o pages kinds n) ≡ number_at o w k (record_bytes o (get_or pages i 0) (get_or kinds i 0))
record_read o pages kinds w k i zero h lt = absurd (omega arith)
record_read o pages kinds w k i (suc n) h lt =
    let r : (i ≡ n) ⊎ (i < n) = eq-or-lt_of_le (omega arith) in
    let ln : length (records_to o pages kinds n) ≡ 8 * n = length_records o pages kinds n in
    ⊎_elim
    (λ e. rw e (behind o w k (8 * n) (records_to o pages kinds n) (record_bytes o (get_or pages n 0) (get_or kinds n 0)) ln))
    (λ l. in_front o w (8 * i + k) (records_to o pages kinds n) (record_bytes o (get_or pages n 0) (get_or kinds n 0)) (omega arith) ∙ record_read o pages kinds w k i n h l)
    r

-- the fields of a record
fields : (o : Order) (page kind : ℕ) → (number_at o 4 0 (record_bytes o page kind) ≡ number_of o (bytes_of o 4 page))
    × (number_at o 2 4 (record_bytes o page kind) ≡ number_of o (bytes_of o 2 kind)) × (number_at o 2 6 (record_bytes o page kind) ≡ number_of o (bytes_of o 2 0))
unfolding record_bytes
fields High page kind = (refl, refl, refl)
fields Low page kind = (refl, refl, refl)

-- what stands at the places of a header beside the settings, as bytes
record FieldsOf (o : Order) (s : List ℕ) (n w : ℕ) : Type 0 where
  is_edition : edition_at o s ≡ number_of o (bytes_of o 2 1)
  is_zero₁ : first_zero_at o s ≡ number_of o (bytes_of o 2 0)
  is_count : count_at o s ≡ number_of o (bytes_of o 4 n)
  is_offset : offset_at o s ≡ number_of o (bytes_of o 4 48)
  is_writes : writes_at o s ≡ number_of o (bytes_of o 4 w)
  is_long : length_at o s ≡ number_of o (bytes_of o 4 (file_length n))
  is_zero₂ : last_zero_at o s ≡ number_of o (bytes_of o 4 0)

header_read : (o : Order) (t : Settings) (n w : ℕ) (rest : List ℕ) → FieldsOf o (header_bytes o t n w ++ rest) n w
unfolding header_bytes settings_bytes
header_read High t n w rest = record { is_edition = refl; is_zero₁ = refl; is_count = refl; is_offset = refl; is_writes = refl; is_long = refl; is_zero₂ = refl }
header_read Low t n w rest = record { is_edition = refl; is_zero₁ = refl; is_count = refl; is_offset = refl; is_writes = refl; is_long = refl; is_zero₂ = refl }

mark_read : (o : Order) (t : Settings) (n w : ℕ) (rest : List ℕ) → mark_of (header_bytes o t n w ++ rest) ≡ Some o
unfolding header_bytes
mark_read High t n w rest = refl
mark_read Low t n w rest = refl

module _ (t : Trace) (ok : Proper t) where
  -- what the encoding holds at the places of the header
  head : FieldsOf t.order (encode t) (length t.pages) (writes_in t.kinds)
  unfolding encode
  head = header_read t.order t.settings (length t.pages) (writes_in t.kinds) (records_to t.order t.pages t.kinds (length t.pages))

  mark : mark_of (encode t) ≡ Some t.order
  unfolding encode
  mark = mark_read t.order t.settings (length t.pages) (writes_in t.kinds) (records_to t.order t.pages t.kinds (length t.pages))

  count : count_at t.order (encode t) ≡ length t.pages
  count = let few = ok.few in head.is_count ∙ number_back t.order 4 (length t.pages) (omega arith)

  settings_read : settings_in t.order (encode t) ≡ t.settings
  unfolding encode header_bytes
  settings_read =
      let o = t.order in
      let n = length t.pages in
      let w = writes_in t.kinds in
      let front = front_bytes o n w in
      let rest = records_to o t.pages t.kinds n in
      settings_back o t.settings 24 front (bytes_of o 4 0 ++ rest) (encode t) ok.range ok.seed
      (append_assoc (front ++ settings_bytes o t.settings) (bytes_of o 4 0) rest) (length_front o n w)

  -- a field of record i of the whole
  record_field : (w k i : ℕ) → k + w ≤ 8 → i < length t.pages
      → number_at t.order w (48 + 8 * i + k) (encode t) ≡ number_at t.order w k (record_bytes t.order (get_or t.pages i 0) (get_or t.kinds i 0))
  unfolding encode
  record_field w k i h l =
      let o = t.order in
      let n = length t.pages in
      rw (add_assoc 48 (8 * i) k)
      (behind o w (8 * i + k) 48 (header_bytes o t.settings n (writes_in t.kinds)) (records_to o t.pages t.kinds n) (length_header o t.settings n (writes_in t.kinds))
      ∙ record_read o t.pages t.kinds w k i n h l)

  page_read : (i : ℕ) → i < length t.pages → page_at t.order (encode t) i ≡ get_or t.pages i 0
  page_read i l =
      let o = t.order in
      ap (λ (m : ℕ). number_at o 4 m (encode t)) (sym (add-zero (48 + 8 * i)))
      ∙ record_field 4 0 i (omega arith) l ∙ (fields o (get_or t.pages i 0) (get_or t.kinds i 0)).0 ∙ number_back o 4 (get_or t.pages i 0) (ok.page i)

  kind_read : (i : ℕ) → i < length t.pages → kind_at t.order (encode t) i ≡ get_or t.kinds i 0
  kind_read i l =
      let o = t.order in
      record_field 2 4 i (omega arith) l ∙ (fields o (get_or t.pages i 0) (get_or t.kinds i 0)).1 ∙ number_back o 2 (get_or t.kinds i 0) (let le = known_le t.kinds i ok.known in omega arith)

  zero_read : (i : ℕ) → i < length t.pages → zero_at t.order (encode t) i ≡ 0
  zero_read i l =
      let o = t.order in
      record_field 2 6 i (omega arith) l ∙ (fields o (get_or t.pages i 0) (get_or t.kinds i 0)).2 ∙ number_back o 2 0 (omega arith)

  pages_read : up_to (page_at t.order (encode t)) (length t.pages) ≡ t.pages
  pages_read = up_to_is (page_at t.order (encode t)) t.pages page_read

  kinds_read : up_to (kind_at t.order (encode t)) (length t.pages) ≡ t.kinds
  kinds_read =
      let same = ok.same in
      rw same (up_to_is (kind_at t.order (encode t)) t.kinds (λ i l. kind_read i (omega arith)))

  trace_read : trace_at t.order (encode t) ≡ t
  unfolding trace_at
  trace_read = rw (settings_read, count, pages_read, kinds_read)

  layout_read : layout_refusal t.order (encode t) ≡ 0
  unfolding layout_refusal
  layout_read =
      let o = t.order in
      let n = length t.pages in
      let few = ok.few in
      rw (
        head.is_edition ∙ number_back o 2 1 (omega arith),
        count,
        head.is_offset ∙ number_back o 4 48 (omega arith),
        head.is_long ∙ number_back o 4 (file_length n) (omega arith),
        length_encode t,
      )
      (simp (le-leb n record_limit ok.few, eq-eqb (file_length n) (file_length n) refl))

  content_read : content_refusal t.order (encode t) ≡ 0
  unfolding content_refusal
  content_read =
      let o = t.order in
      let w = writes_in t.kinds in
      let few = ok.few in
      let same = ok.same in
      let lw = writes_le t.kinds in
      rw (
        head.is_zero₁ ∙ number_back o 2 0 (omega arith),
        head.is_zero₂ ∙ number_back o 4 0 (omega arith),
        count,
        all_zero_lem (zero_at o (encode t)) (length t.pages) zero_read,
        kinds_read,
        ok.known,
        head.is_writes ∙ number_back o 4 w (omega arith),
        settings_read,
        ok.range,
      )
      (simp (eq-eqb w w refl))

  -- the encoding is accepted, and holds the trace
  pub refusal_encode : refusal_of (encode t) ≡ 0
  unfolding refusal_of refusal_in
  refusal_encode =
      let long = length_encode t in
      rw (le-leb header_length (length (encode t)) (omega arith), mark, layout_read, content_read)

  pub trace_encode : trace_of (encode t) ≡ t
  trace_encode = trace_is t.order (encode t) mark ∙ trace_read

  -- decoding what was encoded gives it back
  pub decode_encode : decode (encode t) ≡ Whole t
  unfolding decode
  decode_encode = rw (refusal_encode, trace_encode)

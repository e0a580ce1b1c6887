-- The converter's answers, one law a way, and converting twice.
use mathlib.Core.Path.{◌≡◌, refl, sym, ◌∙◌}
use mathlib.Core.List.{List}
use Prim.Native.Nat.{ℕ, ◌≤◌, ◌<◌}
use native.Mathlib.Omega.{arith}
use lib.ListN.{length, take}
use lib.Seq.{sets}
use lib.Dec.{leb}
use borrow.Author.Tests.{le-leb, lt-leb, leb-true}
use Rattle.word.proofs.Laws.{Bytes, sets_front}
use Rattle.word.specs.declared.Order.{Order}
use Rattle.word.specs.declared.Order.TheVariants.{High, Low}
use Rattle.refusal.specs.Refusals.{demand, or_else, no_room}
use Rattle.refusal.proofs.Laws.{met, neither, or_first, unstored}
use Rattle.trace.specs.Layout.{writes_in}
use Rattle.trace.specs.Encode.{header_bytes, records_to, other, turned, Proper}
use Rattle.trace.specs.Check.{refusal_of, trace_of, decode, check_of}
use Rattle.trace.specs.Check.Outcome.{Whole}
use Rattle.trace.specs.declared.Summary.{Summary}
use Rattle.trace.specs.Check.Checked.{Refused, Accepted}
use Rattle.trace.proofs.Accept.{accepted, refused_is}
use Rattle.trace.proofs.Sizes.{length_encode}
use Rattle.trace.proofs.Round.{decode_encode}
use Rattle.trace.proofs.Whole.{proper, encode_trace, length_trace, decode_whole}
use Rattle.scribe.proofs.Laws.{encode_stores}
use Rattle.scribe.specs.Write.{convert_refusal, converted, ConvertedTo, ConvertsBack}

-- the header and then the records, in the other order, are the conversion
pub convert_stores : (s : List ℕ) (h : Summary) (to : Order) (writes : ℕ) (out mid out' : List ℕ) → check_of s ≡ Accepted h
    → to ≡ other h.order → writes ≡ writes_in (trace_of s).kinds → mid ≡ sets out 0 (header_bytes to h.settings h.count writes)
    → out' ≡ sets mid 48 (records_to to (trace_of s).pages (trace_of s).kinds h.count) → out' ≡ sets out 0 (converted (trace_of s))
unfolding converted
convert_stores s h to writes out mid out' e o w m d =
    let t = (accepted s h e).1 in
    encode_stores (turned (trace_of s)) (length (trace_of s).pages) writes out mid out' refl w (rw (o, t) at m) (rw (o, t) at d)

pub convert_refused : (s out : List ℕ) (r : ℕ) → check_of s ≡ Refused r → ConvertedTo s out r out
unfolding convert_refusal
convert_refused s out r e =
    let f = refused_is s r e in
    let next = demand (leb (length s) (length out)) no_room 0 in
    let first : or_else (refusal_of s) next ≡ r = rw f.0 (sym (or_first r next f.1)) in
    record { answers = sym first; bytes_hold = rw first (unstored r (converted (trace_of s)) out f.1) }

pub convert_whole : (s : List ℕ) (h : Summary) (out out' : List ℕ) → check_of s ≡ Accepted h → length s ≤ length out → out' ≡ sets out 0 (converted (trace_of s))
    → ConvertedTo s out 0 out'
unfolding convert_refusal
convert_whole s h out out' e fits d =
    let z : or_else (refusal_of s) (demand (leb (length s) (length out)) no_room 0) ≡ 0 = rw ((accepted s h e).0, le-leb (length s) (length out) fits) in
    record { answers = sym z; bytes_hold = rw z d }

pub convert_no_room : (s : List ℕ) (h : Summary) (out : List ℕ) → check_of s ≡ Accepted h → length out < length s → ConvertedTo s out no_room out
unfolding convert_refusal
convert_no_room s h out e short =
    let z : or_else (refusal_of s) (demand (leb (length s) (length out)) no_room 0) ≡ no_room = rw ((accepted s h e).0, lt-leb (length s) (length out) short) in
    record { answers = sym z; bytes_hold = rw z }

other_other : (o : Order) → other (other o) ≡ o
other_other High = refl
other_other Low = refl

module _ (s : List ℕ) (bs : Bytes s) (z : refusal_of s ≡ 0) where
  proper_turned : Proper (turned (trace_of s))
  proper_turned =
      let p = proper s bs z in
      record { same = p.same; few = p.few; known = p.known; range = p.range; seed = p.seed; page = p.page }

  -- converting changes neither settings nor records
  pub decode_converted : decode (converted (trace_of s)) ≡ Whole (turned (trace_of s))
  unfolding converted
  decode_converted = decode_encode (turned (trace_of s)) proper_turned

  -- converting twice gives the first bytes again
  pub convert_twice : converted (turned (trace_of s)) ≡ s
  unfolding converted
  convert_twice = rw (other_other (trace_of s).order) (encode_trace s bs z)

  length_converted : length (converted (trace_of s)) ≡ length s
  unfolding converted
  length_converted = length_encode (turned (trace_of s)) ∙ sym (length_trace s bs z)

pub converts_back : (s out : List ℕ) (r : ℕ) (out' : List ℕ) → Bytes s → ConvertedTo s out r out' → ConvertsBack s r out'
unfolding convert_refusal
converts_back s out r out' bs c e =
    let none = sym c.answers ∙ e in
    let n = neither (refusal_of s) (demand (leb (length s) (length out)) no_room 0) none in
    let fits = leb-true (length s) (length out) (met (leb (length s) (length out)) no_room 0 (omega arith) n.1).0 in
    let f : take (length s) out' ≡ converted (trace_of s) =
    rw (c.bytes_hold, none) (sets_front out (converted (trace_of s)) (length s) (length_converted s bs n.0) fits) in
    (rw f (decode_converted s bs n.0), convert_twice s bs n.0)

-- convert, then convert what was converted, with room: accepted, and the first bytes again
pub convert_convert : (s : List ℕ) (r : ℕ) (mid out : List ℕ) (q : ℕ) (out' : List ℕ) → r ≡ 0 → ConvertsBack s r mid
    → length (take (length s) mid) ≤ length out → ConvertedTo (take (length s) mid) out q out' → (q ≡ 0) × (out' ≡ sets out 0 s)
unfolding convert_refusal
convert_convert s r mid out q out' z back fits c =
    let b = back z in
    let d = decode_whole (take (length s) mid) (turned (trace_of s)) b.0 in
    let l = le-leb (length (take (length s) mid)) (length out) fits in
    (rw (c.answers, d.0, l), rw (c.bytes_hold, d.0, l, d.1, b.1))

-- Bytes that nothing refuses hold a trace that the layout can hold, and are its encoding.
use mathlib.Core.Path.{◌≡◌, sym, ap, ◌∙◌}
use mathlib.Core.List.{List}
use Prim.Native.Nat.{ℕ, ◌+◌, ◌*◌}
use native.Mathlib.Omega.{arith}
use lib.ListN.{length}
use Rattle.word.proofs.Laws.{Bytes, number_at_lt}
use Rattle.word.specs.declared.Order.{Order}
use Rattle.settings.specs.Settings.{settings_at}
use Rattle.trace.specs.Layout.{Trace, file_length, count_at, page_at, kind_at, trace_at}
use Rattle.trace.specs.Encode.{encode, Proper}
use Rattle.trace.specs.Check.{refusal_of, trace_of, decode}
use Rattle.trace.specs.Check.Outcome.{Whole}
use Rattle.trace.proofs.Lists.{length_up_to, up_to_lt}
use Rattle.trace.proofs.Laws.{outcome_whole}
use Rattle.trace.proofs.Accept.{Passed, passed, trace_is}
use Rattle.trace.proofs.Again.{encode_again}
use Rattle.trace.proofs.Sizes.{length_encode}

proper_at : (o : Order) (s : List ℕ) → Bytes s → Passed o s → Proper (trace_at o s)
unfolding trace_at settings_at
proper_at o s bs p =
    let n = count_at o s in
    let long = p.laid.long in
    let lp = length_up_to (page_at o s) n in
    record {
      same = lp ∙ sym (length_up_to (kind_at o s) n);
      few = rw lp p.laid.few;
      known = p.fill.known;
      range = p.fill.range;
      seed = number_at_lt o 4 40 s bs (omega arith);
      page = up_to_lt (page_at o s) n 4294967296 (omega arith) (λ i h. number_at_lt o 4 (48 + 8 * i) s bs (omega arith));
    }

module _ (s : List ℕ) (bs : Bytes s) (z : refusal_of s ≡ 0) where
  pub proper : Proper (trace_of s)
  proper = let p = passed s z in rw (trace_is p.0 s p.1.mark) (proper_at p.0 s bs p.1)

  -- the bytes are the encoding of their trace
  pub encode_trace : encode (trace_of s) ≡ s
  encode_trace = let p = passed s z in rw (trace_is p.0 s p.1.mark) (encode_again p.0 s bs p.1)

  pub length_trace : length s ≡ file_length (length (trace_of s).pages)
  length_trace = ap length (sym encode_trace) ∙ length_encode (trace_of s)

-- what decodes is not refused, and holds the trace
pub decode_whole : (s : List ℕ) (t : Trace) → decode s ≡ Whole t → (refusal_of s ≡ 0) × (trace_of s ≡ t)
unfolding decode
decode_whole s t e = outcome_whole (refusal_of s) (trace_of s) t e

-- encoding what was decoded gives the bytes back
pub encode_decode : (s : List ℕ) (t : Trace) → Bytes s → decode s ≡ Whole t → encode t ≡ s
encode_decode s t bs e = let d = decode_whole s t e in rw (← d.1) (encode_trace s bs d.0)

-- one trace in one order has one encoding
pub one_encoding : (s₁ s₂ : List ℕ) (t : Trace) → Bytes s₁ → Bytes s₂ → decode s₁ ≡ Whole t → decode s₂ ≡ Whole t → s₁ ≡ s₂
one_encoding s₁ s₂ t b₁ b₂ d₁ d₂ = sym (encode_decode s₁ t b₁ d₁) ∙ encode_decode s₂ t b₂ d₂

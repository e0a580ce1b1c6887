-- The curve's numbers are those of plain LRU replays.
use mathlib.Core.Path.{◌≡◌, ap, sym, ◌∙◌}
use mathlib.Core.Bool.{true}
use mathlib.Core.List.{List}
use Prim.Native.Nat.{ℕ, suc, ◌-◌, ◌*◌, ◌≤◌}
use native.Mathlib.Omega.{arith}
use lib.ListN.{length, get_or}
use borrow.Author.Tests.{le-leb}
use Rattle.word.specs.Number.{number_at}
use Rattle.word.proofs.Laws.{bytes_of_lem}
use Rattle.trace.specs.Check.{refusal_of, trace_of}
use Rattle.trace.proofs.Whole.{proper}
use Rattle.distance.specs.Distance.{misses_at}
use Rattle.curve.specs.Curve.{no_pins, curve_refusal, CurveInto}
use Rattle.curve.proofs.Called.{granted, curve_place}
use Rattle.recency.specs.Curve.{lru_misses}
use Rattle.recency.proofs.Recency.{recency_law}
use Rattle.recency.proofs.Curve.{curve_demand}
use Rattle.host.specs.Curve.{CurveBytesInto}
use Rattle.host.proofs.Laws.{curve_bytes_at}
use Rattle.rename.specs.Sameness.{AreBytes}
use Rattle.demands.specs.Curve.{Curves}

-- the misses at size f are a replay's
foretold : (s : List ℕ) (needed room : ℕ) → AreBytes s → curve_refusal s needed room ≡ 0 → (f : ℕ) → 1 ≤ f → f ≤ 128 → misses_at (trace_of s).pages (suc (f - 1)) ≡ lru_misses (trace_of s) f
foretold s needed room b e f l m =
    let g = granted s needed room e in
    let n : suc (f - 1) ≡ f = omega arith in
    ap (misses_at (trace_of s).pages) n ∙ curve_demand (trace_of s) (proper s (bytes_of_lem s b) g.0) g.1 f l m

misses : (s list list' : List ℕ) → AreBytes s → CurveInto s list 0 list' → (f : ℕ) → 1 ≤ f → f ≤ 128 → get_or list' (f - 1) 0 ≡ lru_misses (trace_of s) f
misses s list list' b c f l m = curve_place s list list' c (f - 1) (omega arith) ∙ foretold s 128 (length list) b (sym c.answers) f l m

bytes : (s out out' : List ℕ) → AreBytes s → CurveBytesInto s out 0 out' → (f : ℕ) → 1 ≤ f → f ≤ 128 → number_at (trace_of s).order 4 (4 * (f - 1)) out' ≡ lru_misses (trace_of s) f
bytes s out out' b c f l m =
    let e = sym c.answers in
    let few = (proper s (bytes_of_lem s b) (granted s 512 (length out) e).0).few in
    curve_bytes_at s out out' c (f - 1) (omega arith) (omega arith) ∙ foretold s 512 (length out) b e f l m

given : (s : List ℕ) (needed room : ℕ) → (refusal_of s ≡ 0) × (no_pins (trace_of s).kinds ≡ true) × (needed ≤ room) → curve_refusal s needed room ≡ 0
unfolding curve_refusal
given s needed room h = rw (h.0, h.1, le-leb needed room h.2)

pub curves : Curves
curves = record { misses = misses; bytes = bytes; serves = λ s needed room. (granted s needed room, given s needed room); rests = recency_law }

-- What the transport gets of the curve.
use Rattle.std.specs.Prelude.{ℕ, ◌*◌, ◌≡◌, List, length}
use Rattle.refusal.specs.Refusals.{stored}
use Rattle.trace.specs.Check.{trace_of}
use Rattle.curve.specs.Curve.{sizes, curve_of, curve_refusal}
use Rattle.host.specs.Counts.{words_of}

-- "128 numbers of 4 bytes"
abbrev pub curve_length : ℕ
curve_length = 4 * sizes

-- 0 or a refusal, and the 128 numbers as the first 512 bytes of the buffer in the trace's own byte order; on a refusal nothing is stored
pub record CurveBytesInto (s out : List ℕ) (r : ℕ) (out' : List ℕ) : Type 0 where
  pub answers : r ≡ curve_refusal s curve_length (length out)
  pub out_holds : out' ≡ stored (curve_refusal s curve_length (length out)) (words_of (trace_of s).order (curve_of (trace_of s).pages)) out

-- What the transport gets of a replay to counts from a fresh pool.
use Rattle.std.specs.Prelude.{ℕ, ◌*◌, ◌≡◌, List, [], ◌∷◌, ◌++◌, length, leb}
use Rattle.word.specs.declared.Order.{Order}
use Rattle.word.specs.Number.{bytes_of}
use Rattle.refusal.specs.Refusals.{demand, or_else, stored, no_room}
use Rattle.trace.specs.Check.{refusal_of, trace_of}
use Rattle.tally.specs.declared.Tally.{Tally}
use Rattle.tally.specs.Tally.{numbers_of, zero_tally}
use Rattle.fresh.specs.Fresh.{fresh_counts}

-- "the transport's counts 24 bytes": 4 for each
abbrev pub counts_length : ℕ
counts_length = 4 * length (numbers_of zero_tally)

-- numbers in an order, 4 bytes each
abbrev pub words_of : Order → List ℕ → List ℕ
words_of o [] = []
words_of o (n ∷ l) = bytes_of o 4 n ++ words_of o l

-- "the six counts, 4 bytes each and in the order above"
unfoldable pub count_bytes : Order → Tally → List ℕ
count_bytes o t = words_of o (numbers_of t)

-- the trace's refusals, then 13
unfoldable pub host_refusal : List ℕ → ℕ → ℕ
host_refusal s room = or_else (refusal_of s) (demand (leb counts_length room) no_room 0)

-- 0 or a refusal, and the six counts as the first 24 bytes of the buffer in the trace's own byte order; on a refusal nothing is stored
pub record CountsInto (s out : List ℕ) (r : ℕ) (out' : List ℕ) : Type 0 where
  pub answers : r ≡ host_refusal s (length out)
  pub out_holds : out' ≡ stored (host_refusal s (length out)) (count_bytes (trace_of s).order (fresh_counts (trace_of s))) out

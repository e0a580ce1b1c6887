-- "Carry the pool over midnight. Monday's replay should go on Tuesday. .. Replay from a reloaded pool equals replay from the pool that was saved."
use Rattle.std.specs.Prelude.{ℕ, ◌≡◌, List, ◌↔◌, length, take}
use Rattle.word.specs.declared.Order.{Order}
use Rattle.trace.specs.Layout.{Trace}
use Rattle.trace.specs.Check.{trace_of}
use Rattle.pool.specs.declared.Pool.{Pool}
use Rattle.image.specs.Layout.{image_length, used_in}
use Rattle.image.specs.Image.{image_of, SavedTo, Typed}
use Rattle.tally.specs.declared.Tally.{Tally}
use Rattle.replay.specs.declared.Ended.{Ended}
use Rattle.replay.specs.Replay.{replay_of, joined, gone_on}
use Rattle.replay.specs.Calls.{Stepped, StepInto, counts_of, ReplayInto}
use Rattle.rename.specs.Sameness.{AreBytes}

-- the pool that is read from what a writer of images stored for pool p
abbrev pub reloaded : Pool → List ℕ → Pool
reloaded p out' = (image_of (take (image_length (used_in p)) out')).pool

-- pool q serves as p: a replay by its definition, rows, pages, tally and end pool; and each call, which allows for q what it allows for p
pub record ServesAs (q p : Pool) : Type 0 where
  pub played : (t : Tally) (trace : Trace) → replay_of q t trace ≡ replay_of p t trace
  pub step : (t : Tally) (page kind : ℕ) (list : List ℕ) (r : Stepped) (list' : List ℕ) → StepInto q t page kind list r list' ↔ StepInto p t page kind list r list'
  pub replay : (t : Tally) (s rows written : List ℕ) (r : Ended) (rows' written' : List ℕ) → ReplayInto q t s rows written r rows' written' ↔ ReplayInto p t s rows written r rows' written'
  pub counts : (t : Tally) (s : List ℕ) → counts_of q t s ≡ counts_of p t s

pub record Carried : Type 0 where
  -- "replay from a reloaded pool equals replay from the pool that was saved", in either order
  pub serves : (p : Pool) (o : Order) (out out' : List ℕ) → Typed p → SavedTo p o out 0 out' → ServesAs (reloaded p out') p
  -- the records of two traces: a replay of both is the first's, gone on with from its pool and tally
  pub goes_on : (p : Pool) (t : Tally) (a b : Trace) → length a.pages ≡ length a.kinds
      → replay_of p t (joined a b) ≡ gone_on (replay_of p t a) (replay_of (replay_of p t a).pool (replay_of p t a).tally b)
  -- "Monday's replay should go on Tuesday": Monday's replay to counts, its pool saved, loaded and gone on with, is one replay of both days' records;
  -- a replay with rows ends in the same pool and tally (`counts` of the second demand). Who starts Tuesday's counts at zero, as the program does, gets
  -- what Tuesday adds: each count is the start's plus that of the rows (`counted` there)
  pub over_midnight : (p : Pool) (t : Tally) (monday : List ℕ) (e : Ended) → AreBytes monday → e ≡ counts_of p t monday → e.refusal ≡ 0
      → (o : Order) (out out' : List ℕ) → Typed e.pool → SavedTo e.pool o out 0 out' → (tuesday : Trace)
      → gone_on (replay_of p t (trace_of monday)) (replay_of (reloaded e.pool out') e.tally tuesday) ≡ replay_of p t (joined (trace_of monday) tuesday)

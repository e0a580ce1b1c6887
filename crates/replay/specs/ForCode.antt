-- What the functions of the code say of themselves. Who reads the rules passes this over.
use Rattle.std.specs.Prelude.{ℕ, ◌≡◌, true, List}
use Rattle.std.proofs.lemmas.List.Edits.{sets}
use Rattle.trace.specs.declared.Summary.{Summary}
use Rattle.trace.specs.Check.Checked.{Accepted}
use Rattle.trace.specs.Check.{check_of, trace_of}
use Rattle.pool.specs.declared.Pool.{Pool}
use Rattle.tally.specs.declared.Tally.{Tally}
use Rattle.replay.specs.declared.Ended.{Ended}
use Rattle.replay.specs.Replay.{replay_of, rows_numbers}
use Rattle.replay.specs.Calls.{may_begin, ended_of}

-- what the loops ask: a replay that may begin, of an accepted trace
pub record Ready (p : Pool) (t : Tally) (s : List ℕ) (h : Summary) : Type 0 where
  pub begins : may_begin p t ≡ true
  pub accepted : check_of s ≡ Accepted h

-- what the loop with rows leaves: answer and lists as of a replay that is not refused
pub record RanInto (p : Pool) (t : Tally) (s rows written : List ℕ) (r : Ended) (rows' written' : List ℕ) : Type 0 where
  pub answers : r ≡ ended_of 0 p t (replay_of p t (trace_of s))
  pub rows_hold : rows' ≡ sets rows 0 (rows_numbers (replay_of p t (trace_of s)).rows)
  pub written_hold : written' ≡ sets written 0 (replay_of p t (trace_of s)).written

-- What a replay that may begin tells, and that its counts fit.
use mathlib.Core.Path.{◌≡◌, refl, sym}
use mathlib.Core.Bool.{Bool, true, false, and-eq-true_iff}
use Prim.Native.Nat.{◌+◌, ◌*◌, ◌≤◌}
use native.Mathlib.Omega.{arith}
use Rattle.std.specs.Prelude.{Result, Ok, Err}
use Rattle.std.specs.Result.{is_ok}
use Rattle.refusal.specs.declared.Refusal.{Refusal}
use Rattle.refusal.specs.Numbers.{number_of, answer_of}
use Rattle.refusal.specs.Refusals.{demand, not_sound}
use Rattle.refusal.proofs.Laws.{met, number_some}
use Rattle.trace.specs.Layout.{record_limit}
use Rattle.pool.specs.declared.Pool.{Pool}
use Rattle.pool.specs.Sound.{sound_pool, pool_refusal}
use Rattle.tally.specs.declared.Tally.{Tally}
use Rattle.tally.specs.Tally.{tally_limit, tally_within}
use Rattle.tally.specs.ForCode.{word32, Within}
use Rattle.tally.proofs.Laws.{within_bound}
use Rattle.replay.specs.Calls.{may_begin}

-- an answer that refuses nothing says that a pool is sound
pub passed_is : (p : Pool) (a : Result (Unit {0}) Refusal) → answer_of a ≡ pool_refusal p → is_ok a ≡ sound_pool p
unfolding pool_refusal
passed_is p (Ok v) e = sym (met (sound_pool p) not_sound 0 (omega arith) (sym e)).0
passed_is p (Err r) e = go (sound_pool p) e
  where
    go : (b : Bool) → number_of r ≡ demand b not_sound 0 → false ≡ b
    go true e = let some = number_some r in absurd (omega arith)
    go false e = refl

pub begins_sound : (p : Pool) (t : Tally) → may_begin p t ≡ true → sound_pool p ≡ true
unfolding may_begin
begins_sound p t h = ((and-eq-true_iff (sound_pool p) (tally_within t)).0 h).0

pub begins_within : (p : Pool) (t : Tally) → may_begin p t ≡ true → Within t tally_limit
unfolding may_begin
begins_within p t h = within_bound t ((and-eq-true_iff (sound_pool p) (tally_within t)).0 h).1

-- records of 16 pages each at most, as many as a trace may have, take no count from its limit past 32 bits
pub counts_fit : tally_limit + 16 * record_limit ≤ word32
counts_fit = omega arith

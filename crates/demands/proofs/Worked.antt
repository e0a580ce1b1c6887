-- The dozen hold.
use mathlib.Core.Path.{refl}
use Prim.Native.Nat.{zero, suc}
use native.Mathlib.Omega.{arith}
use Rattle.search.specs.Search.{least_below, among}
use Rattle.worth.specs.Value.{less_fraction, greater_of, worth_of, value_of}
use Rattle.pool.specs.Pool.{fresh_pool}
use Rattle.reference.specs.Search.{find_page, lowest_unused}
use Rattle.reference.specs.Reference.{referred, hit_at, fetched_at, pinned_at}
use Rattle.victim.specs.Lru.{lru_victim, lru_choice}
use Rattle.victim.specs.Clock.{sweep_from, sweep_of, swept_choice, any_unpinned, clock_choice}
use Rattle.victim.specs.Watt.{next_sampler, sampler_after, draws, watt_victim, watt_choice}
use Rattle.victim.specs.Rules.{choice_of, batch_order}
use Rattle.batch.specs.Taken.{others_to}
use Rattle.batch.specs.Batch.{batch_of, cleaned, pages_of}
use Rattle.effect.specs.Record.{hit_of, leaving_of, eviction_of, miss_of, reference_of, record_of}
use Rattle.replay.specs.Replay.{replay_to}
use Rattle.demands.specs.Worked.{P1, P2, P3, P4, P5, P6, P7, P8, P9, P10, P11, WorkedByHand}

values : P1 × P2 × P3 × P4 × P5
unfolding value_of worth_of greater_of less_fraction
values = (refl, refl, refl, (omega arith, refl), refl)

drawn : P6
unfolding draws sampler_after next_sampler
drawn = refl

swept : P7 × P8
unfolding replay_to record_of reference_of hit_of miss_of eviction_of leaving_of fresh_pool find_page lowest_unused least_below referred hit_at fetched_at choice_of clock_choice swept_choice sweep_of sweep_from any_unpinned batch_of cleaned pages_of
swept = (refl, refl)

batched : P9 × P10
unfolding replay_to record_of reference_of hit_of miss_of eviction_of leaving_of fresh_pool find_page lowest_unused least_below referred hit_at fetched_at choice_of lru_choice lru_victim batch_of others_to batch_order among cleaned pages_of
batched = (refl, refl)

pinned : P11
unfolding replay_to record_of reference_of hit_of miss_of eviction_of leaving_of fresh_pool find_page lowest_unused least_below referred hit_at fetched_at choice_of pinned_at lru_choice lru_victim clock_choice any_unpinned watt_choice watt_victim draws sampler_after next_sampler among
pinned zero l = refl
pinned (suc zero) l = refl
pinned (suc (suc zero)) l = refl
pinned (suc (suc (suc rule))) l = absurd (omega arith)

-- the theorem
pub worked_by_hand : WorkedByHand
worked_by_hand =
    (values.0, (values.1, (values.2, (values.3, (values.4, (drawn, (swept.0, (swept.1, (batched.0, (batched.1, (pinned, ((refl, refl), tt))))))))))))

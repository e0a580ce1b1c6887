-- Replay to counts from a fresh pool.
use Rattle.trace.specs.Layout.{Trace}
use Rattle.pool.specs.Pool.{fresh_pool}
use Rattle.tally.specs.declared.Tally.{Tally}
use Rattle.tally.specs.Tally.{zero_tally}
use Rattle.replay.specs.Replay.{replay_of}

-- replay to counts from a fresh pool and zero tally
unfoldable pub fresh_counts : Trace → Tally
fresh_counts trace = (replay_of (fresh_pool trace.settings) zero_tally trace).tally

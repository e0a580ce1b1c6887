use Rattle.pool.specs.Pool.{fresh_pool}
use Rattle.pool.proofs.empty.Goals as goal

pub returns : goal.returns
unfolding fresh_pool
returns c = rw c.empty_frame.ensures

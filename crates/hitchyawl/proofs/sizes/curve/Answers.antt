use Rattle.hitchyawl.proofs.Laws.{answered_falls}
use Rattle.hitchyawl.proofs.sizes.curve.Goals as goal

pub show-requires : goal.show-requires
show-requires c = answered_falls _ _ _ _ c.misses.ensures (rw c.in_ok-granted.ensures)

use Rattle.table.specs.Table.{pool_on}
use Rattle.effect.proofs.Placed.{hit_left}
use Rattle.effect.proofs.enter_hit.Goals as goal

pub returns : goal.returns
returns c =
    hit_left (pool_on c.args.bench.now) _ _ _ _ c.now_of-epoch.ensures _ _ _ _ _ _ _
    c.frame_at-old.ensures c.hit_frame-fr.ensures c.enter.ensures c.enter-2.ensures c.put.ensures

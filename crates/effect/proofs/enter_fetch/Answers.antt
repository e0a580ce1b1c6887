use mathlib.Core.Path.{◌∙◌}
use Rattle.table.specs.Table.{pool_on}
use Rattle.effect.proofs.Placed.{fetch_left}
use Rattle.effect.proofs.enter_fetch.Goals as goal

pub returns : goal.returns
returns c =
    fetch_left (pool_on c.args.bench.now) _ _ _ _ c.now_of-epoch.ensures _ _ _ _ _ _ _ _ _
    c.fetched_frame-fr.ensures c.clear.ensures.0 c.clear-2.ensures.0
    c.enter.ensures c.enter-2.ensures (c.note.ensures.1 ∙ c.put.ensures)

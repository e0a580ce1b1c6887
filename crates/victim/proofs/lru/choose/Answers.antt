use Rattle.std.proofs.Common.{ap}
use Rattle.pool.proofs.Sound.{told}
use Rattle.table.specs.Table.{pool_on}
use Rattle.victim.specs.Choice.{unmoved}
use Rattle.victim.specs.Lru.{lru_choice}
use Rattle.victim.proofs.lru.Laws.{lasts_below}
use Rattle.victim.proofs.lru.choose.Goals as goal

pub victim-requires : goal.victim-requires
victim-requires c = lasts_below (pool_on c.args.bench.now) (told _ c.requires)

pub returns : goal.returns
unfolding lru_choice
returns c = ap (unmoved (pool_on c.args.bench.now)) c.victim.ensures

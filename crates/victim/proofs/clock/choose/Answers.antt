use Rattle.std.proofs.Common.{sym, refl, ◌∙◌}
use Rattle.settings.proofs.Laws.{ranges}
use Rattle.pool.proofs.Sound.{told}
use Rattle.table.specs.Table.{pool_on}
use Rattle.victim.proofs.clock.Sweeping.{way_swept, way_pinned}
use Rattle.victim.proofs.clock.choose.Goals as goal

pub any_unpinned-free-requires : goal.any_unpinned-free-requires
any_unpinned-free-requires c = (ranges _ (told _ c.requires).settings).frames.1

pub returns-in-Some : goal.returns-in-Some
returns-in-Some c =
    way_swept (pool_on c.args.bench.now) _ _ _ (sym c.any_unpinned-free.ensures ∙ c.in-Some.is) c.sweep.ensures

pub returns-in-None : goal.returns-in-None
returns-in-None c = way_pinned (pool_on c.args.bench.now) _ (sym c.any_unpinned-free.ensures ∙ c.in-None.is) refl

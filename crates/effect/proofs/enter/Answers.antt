use native.Mathlib.Omega.{arith}
use mathlib.Core.Path.{refl}
use Rattle.table.specs.Table.{pool_on}
use Rattle.effect.proofs.Placed.{way_hit, way_fetch, way_unpin, way_none, unpin_left}
use Rattle.effect.proofs.enter.Goals as goal

pub returns-in-0 : goal.returns-in-0
returns-in-0 c = way_hit (pool_on c.args.bench.now) _ c.args.row _ _ c.in-0.is c.enter_hit.ensures

pub returns-in-4 : goal.returns-in-4
returns-in-4 c = way_unpin (pool_on c.args.bench.now) _ c.args.row _ _ c.in-4.is (unpin_left (pool_on c.args.bench.now) _ _ c.enter_unpin.ensures)

pub returns-in-1-to-3 : goal.returns-in-1-to-3
returns-in-1-to-3 c = way_fetch (pool_on c.args.bench.now) _ c.args.row _ _ (omega arith) (omega arith) c.enter_fetch.ensures

pub returns-else-row-lt4 : goal.returns-else-row-lt4
returns-else-row-lt4 c = way_none (pool_on c.args.bench.now) _ c.args.row _ _ (omega arith) refl

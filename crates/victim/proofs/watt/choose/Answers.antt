use Rattle.std.proofs.Common.{ap, refl}
use Rattle.settings.proofs.Laws.{ranges}
use Rattle.pool.proofs.Sound.{told}
use Rattle.table.specs.Table.{pool_on}
use Rattle.victim.specs.Choice.{left_by}
use Rattle.victim.proofs.watt.Values.{now_is}
use Rattle.victim.proofs.watt.Turns.{victim_is, choice_is}
use Rattle.victim.proofs.watt.choose.Goals as goal

pub now_of-epoch-requires : goal.now_of-epoch-requires
now_of-epoch-requires c = (ranges _ (told (pool_on c.args.bench.now) c.requires).settings).span.0

pub drawn-d-requires : goal.drawn-d-requires
drawn-d-requires c = record { sound = c.requires; now = now_is (pool_on c.args.bench.now) _ c.now_of-epoch.ensures }

pub victim-found-requires : goal.victim-found-requires
victim-found-requires c = record { sound = c.requires; now = now_is (pool_on c.args.bench.now) _ c.now_of-epoch.ensures }

pub returns-clause-rest : goal.returns-clause-rest
returns-clause-rest c = refl

pub returns-clause-chose : goal.returns-clause-chose
returns-clause-chose c =
    let p = pool_on c.args.bench.now in
    let e = choice_is p _ _ _ c.drawn-d.ensures.0 (victim_is p _ _ c.drawn-d.ensures.1 c.victim-found.ensures) c.moved-bench.ensures in
    record { choice = e; left = ap (left_by p) e }

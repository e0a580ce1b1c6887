use Rattle.victim.proofs.Rules.{chose_by, choice_none}
use Rattle.std.proofs.Common.{ap, arith}
use Rattle.table.specs.Table.{pool_on}
use Rattle.victim.specs.Choice.{left_by}
use Rattle.victim.proofs.choose.Goals as goal

pub returns-in-0 : goal.returns-in-0
returns-in-0 c =
    let p = pool_on c.args.bench.now in
    chose_by p 0 _ _ c.in-0.is (record { choice = c.choose.ensures; left = ap (left_by p) c.choose.ensures })

pub returns-in-1 : goal.returns-in-1
returns-in-1 c = chose_by (pool_on c.args.bench.now) 1 _ _ c.in-1.is c.choose-in-1.ensures

pub returns-in-2 : goal.returns-in-2
returns-in-2 c = chose_by (pool_on c.args.bench.now) 2 _ _ c.in-2.is c.choose-in-2.ensures.chose

pub returns-in-3-to-65535 : goal.returns-in-3-to-65535
returns-in-3-to-65535 c =
    let p = pool_on c.args.bench.now in
    let e = choice_none p (omega arith) in
    record { choice = e; left = ap (left_by p) e }

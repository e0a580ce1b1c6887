use native.Mathlib.Omega.{arith}
use Rattle.table.specs.Table.{pool_on}
use Rattle.effect.proofs.Making.{chosen_few, chosen_batchable, chosen_short, room_made, room_none}
use Rattle.effect.proofs.make_room.Goals as goal

pub returns-in_default : goal.returns-in_default
returns-in_default c = room_none (pool_on c.args.bench.now) c.requires.0 _ _ c.choose-found.ensures _ _ _ c.in_default.is c.refused_row.ensures

pub frame_at-fr-requires : goal.frame_at-fr-requires
frame_at-fr-requires c = chosen_few (pool_on c.args.bench.now) c.requires.0 _ _ c.choose-found.ensures _ c.in-Some.is

pub write-n-requires : goal.write-n-requires
write-n-requires c = chosen_batchable (pool_on c.args.bench.now) c.requires.0 _ _ c.choose-found.ensures _ _ _ c.in-Some.is c.requires.1

pub leaving_row-requires : goal.leaving_row-requires
leaving_row-requires c =
    let n = chosen_short (pool_on c.args.bench.now) c.requires.0 _ _ c.choose-found.ensures c.in-Some.v in
    let e = c.write-n.ensures.wrote.counted in
    (chosen_few (pool_on c.args.bench.now) c.requires.0 _ _ c.choose-found.ensures _ c.in-Some.is, omega arith)

pub returns : goal.returns
returns c =
    room_made (pool_on c.args.bench.now) c.requires.0 _ _ c.choose-found.ensures _ _ _ _ _ _ _ _ c.in-Some.is c.write-n.ensures.rest c.write-n.ensures.wrote
    c.frame_at-fr.ensures c.leaving_row.ensures

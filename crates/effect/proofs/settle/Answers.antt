use Rattle.effect.proofs.Settled.{settle_reference, settle_unpin, settle_bad}
use Rattle.effect.proofs.settle.Goals as goal

pub returns-then-asks : goal.returns-then-asks
returns-then-asks c = let a = c.args in settle_reference a.k a.pins a.found a.free _ a.asks c.if-asks.true c.settle_reference.ensures

pub returns-then-asks-2 : goal.returns-then-asks-2
returns-then-asks-2 c =
    let a = c.args in
    settle_unpin a.k a.pins a.found a.free _ a.asks c.if-asks.false c.if-asks-2.true c.settle_unpin.ensures

pub returns : goal.returns
returns c =
    let a = c.args in
    settle_bad a.k a.pins a.found a.free _ a.asks c.if-asks.false c.if-asks-2.false c.refused_row.ensures

use borrow.Author.Tests.{le-leb, lt-leb}
use Rattle.effect.proofs.Settled.{settle_limit, settle_resident, settle_absent}
use Rattle.effect.proofs.settle_reference.Goals as goal

pub returns-then-k-ge-REFERENCE_LIMIT : goal.returns-then-k-ge-REFERENCE_LIMIT
returns-then-k-ge-REFERENCE_LIMIT c = let a = c.args in settle_limit a.k a.pins a.found a.free _ a.pin (le-leb _ _ c.if-k-ge-REFERENCE_LIMIT.true) c.refused_row.ensures

pub returns-in-Some : goal.returns-in-Some
returns-in-Some c =
    let a = c.args in
    settle_resident a.k a.pins a.found a.free _ a.pin _ (lt-leb _ _ c.if-k-ge-REFERENCE_LIMIT.false) c.in-Some.is c.settle_hit.ensures

pub returns-in-None : goal.returns-in-None
returns-in-None c =
    let a = c.args in
    settle_absent a.k a.pins a.found a.free _ a.pin (lt-leb _ _ c.if-k-ge-REFERENCE_LIMIT.false) c.in-None.is c.settle_miss.ensures

use borrow.Author.Tests.{eq-eqb, ne_eqb}
use Rattle.std.specs.Prelude.{None}
use Rattle.effect.proofs.Settled.{unpin_away, unpin_free, unpin_held}
use Rattle.effect.proofs.settle_unpin.Goals as goal

pub returns-in_default : goal.returns-in_default
returns-in_default c = let a = c.args in unpin_away 0 a.pins a.found None _ c.in_default.is c.refused_row.ensures

pub returns-then-pins-eq0 : goal.returns-then-pins-eq0
returns-then-pins-eq0 c =
    let a = c.args in
    unpin_free 0 a.pins a.found None _ _ c.in-Some.is (eq-eqb _ _ c.if-pins-eq0.true) c.refused_row-then-pins-eq0.ensures

pub returns : goal.returns
returns c =
    unpin_held 0 c.args.pins c.args.found None _ _ c.in-Some.is (ne_eqb _ _ c.if-pins-eq0.false) (c.requires _ c.in-Some.is) c.row_at.ensures

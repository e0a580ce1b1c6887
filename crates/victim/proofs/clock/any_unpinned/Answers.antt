use Rattle.std.proofs.Common.{◌≡◌, sym, ◌∙◌, arith, eq-eqb, ne_eqb}
use Rattle.search.proofs.Least.{least_zero, least_skip, first_found}
use Rattle.victim.specs.Clock.{any_unpinned}
use Rattle.victim.proofs.clock.any_unpinned.Goals as goal

pub loop-i-init : goal.loop-i-init
loop-i-init c = least_zero _ _

pub returns-then-fr-eq0 : goal.returns-then-fr-eq0
unfolding any_unpinned
returns-then-fr-eq0 c =
    sym (first_found _ _ _ c.loop-i-test.true c.loop-i.invariant (rw c.frame_at-fr.ensures at (eq-eqb _ _ c.if-fr-eq0.true)))

pub loop-i-preserved : goal.loop-i-preserved
loop-i-preserved c =
    least_skip _ _ _ (rw c.frame_at-fr.ensures at (ne_eqb _ _ c.if-fr-eq0.false)) ∙ c.loop-i.invariant

pub returns : goal.returns
unfolding any_unpinned
returns c = let e : c.loop-i.i ≡ c.args.f = omega arith in sym (rw e at c.loop-i.invariant)

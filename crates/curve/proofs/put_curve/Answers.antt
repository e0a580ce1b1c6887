use mathlib.Core.Path.{refl}
use lib.ListN.{length-set}
use Rattle.curve.proofs.Counting.{left_none, left_more, leavings_none, leavings_more}
use Rattle.curve.proofs.put_curve.Goals as goal

pub loop-f-init : goal.loop-f-init
loop-f-init c = (refl, left_none _ _, leavings_none _ _ _)

pub loop-f-preserved : goal.loop-f-preserved
loop-f-preserved c =
    let l = c.loop-f in
    let s = c.args in
    let v = l.invariant in
    let e = left_more s.times.now s.n l.f l.left v.1 in
    (simp length-set v.0, e, leavings_more s.times.now s.list.now l.list s.n l.f _ v.2 e)

use Prim.Native.Nat.{◌+◌, ◌<◌}
use mathlib.Core.Path.{refl}
use native.Mathlib.Omega.{arith}
use lib.ListN.{length, length-set}
use Rattle.reference.proofs.Logs.{front_none, front_more, front_next}
use Rattle.reference.proofs.put_front.Goals as goal

pub loop-j-init : goal.loop-j-init
loop-j-init c = (refl, front_none _ _ _ c.args.on, refl)

pub loop-j-preserved : goal.loop-j-preserved
loop-j-preserved c =
    let l = c.loop-j in
    let s = c.args in
    let v = l.invariant in
    let h : s.at + l.j < length s.a.now = omega arith in (
      simp length-set v.0,
      front_more s.a.now s.at s.epoch s.on _ l.j _ _ h v.1 v.2 c.chosen.ensures,
      front_next s.a.now s.at s.epoch s.on _ l.j h v.1,
    )

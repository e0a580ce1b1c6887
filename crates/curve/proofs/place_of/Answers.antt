use Prim.Native.Nat.{ℕ, ◌+◌, ◌<◌}
use mathlib.Core.Path.{◌≡◌, refl, ap, ◌∙◌}
use mathlib.Core.Bool.{Bool}
use native.Mathlib.Omega.{arith}
use lib.ListN.{get_or}
use lib.Dec.{eqb}
use Rattle.search.proofs.Past.{past_none, past_few, past_more}
use Rattle.search.specs.ForCode.{past}
use Rattle.distance.proofs.Places.{place_least}
use Rattle.curve.proofs.Moving.{one_stands}
use borrow.Author.Rules.{rules}
use Rattle.curve.proofs.place_of.Goals as goal

pub loop-i-init : goal.loop-i-init
loop-i-init c = (c.requires.few, search rules, past_none _)

pub loop-i-preserved : goal.loop-i-preserved
loop-i-preserved c =
    let l = c.loop-i in
    let s = c in
    let v = l.invariant in
    let n : l.i < s.args.depth = omega arith in
    let ok : ℕ → Bool = λ j. eqb (get_or s.args.room.now j 0) s.args.page in
    let e = past_more ok l.i l.sum c.one_past-sum.result (ok l.i) (λ j m. one_stands s.args.room.now s.args.depth s.args.page s.requires l.i j n m) refl
    c.one_past-sum.ensures.0 v.2 in
    let few = past_few ok (l.i + 1) in
    (v.0, omega arith, e)

pub returns-clause-value : goal.returns-clause-value
returns-clause-value c =
    let v = c.loop-i.invariant in
    let e : c.loop-i.i ≡ c.args.depth = omega arith in
    let z = c.requires.size in
    (rw e at v.2) ∙ ap past (place_least c.args.room.now c.args.page c.args.depth (omega arith))

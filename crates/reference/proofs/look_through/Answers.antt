use Prim.Native.Nat.{◌+◌}
use mathlib.Core.Path.{◌≡◌, ap, sym, ◌∙◌}
use native.Mathlib.Omega.{arith}
use lib.Dec.{eqb}
use Rattle.search.proofs.Past.{past_none, past_few, past_more, past_found, past_nothing}
use Rattle.pool.specs.declared.Frame.{Frame}
use Rattle.table.specs.Table.{frames_in}
use Rattle.reference.specs.Search.{has}
use Rattle.reference.proofs.Finding.{tells, one_holds, among_all}
use borrow.Author.Rules.{rules}
use Rattle.reference.proofs.look_through.Goals as goal

pub loop-i-init : goal.loop-i-init
loop-i-init c = (c.requires.few, search rules, past_none _)

pub loop-i-preserved : goal.loop-i-preserved
loop-i-preserved c =
    let ok = has (frames_in c.args.table.now) c.args.page in
    let n = c.loop-i-test.true in
    let v = c.loop-i.invariant in
    let told = tells _ _ c.args.page c.requires c.loop-i.i n ∙ sym (ap (λ (fr : Frame). eqb fr.page c.args.page) c.frame_at.ensures) in
    let e = past_more ok _ _ _ _ (λ j m. one_holds _ _ c.args.page c.requires c.loop-i.i j (omega arith) m) told c.one_past-past.ensures.0 v.2 in
    let few = past_few ok (c.loop-i.i + 1) in
    (v.0, omega arith, e)

pub returns-then-past-eq0 : goal.returns-then-past-eq0
returns-then-past-eq0 c =
    let ok = has (frames_in c.args.table.now) c.args.page in
    let e : c.loop-i.i ≡ c.args.n = omega arith in
    past_nothing ok _ _ c.if-past-eq0.true (rw e at c.loop-i.invariant.2) ∙ among_all _ _ _ c.requires

pub returns : goal.returns
returns c =
    let ok = has (frames_in c.args.table.now) c.args.page in
    let e : c.loop-i.i ≡ c.args.n = omega arith in
    past_found ok _ _ c.if-past-eq0.false (rw e at c.loop-i.invariant.2) ∙ among_all _ _ _ c.requires

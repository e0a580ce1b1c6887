use mathlib.Core.Path.{◌≡◌, ap, sym, ◌∙◌}
use native.Mathlib.Omega.{arith}
use lib.Dec.{eqb}
use Rattle.std.specs.Prelude.{ℕ, Option}
use Rattle.search.specs.Search.{is_found}
use Rattle.search.proofs.Past.{seen_none, seen_more}
use Rattle.pool.specs.declared.Frame.{Frame}
use Rattle.table.specs.Table.{frames_in}
use Rattle.reference.specs.Search.{has}
use Rattle.reference.proofs.Finding.{tells, among_all}
use Rattle.reference.proofs.resident.Goals as goal

pub loop-i-init : goal.loop-i-init
loop-i-init c = (c.requires.few, seen_none _)

pub loop-i-preserved : goal.loop-i-preserved
loop-i-preserved c =
    let v = c.loop-i.invariant in
    let told = tells _ _ c.args.page c.requires c.loop-i.i c.loop-i-test.true ∙ sym (ap (λ (fr : Frame). eqb fr.page c.args.page) c.frame_at.ensures) in
    (v.0, seen_more (has (frames_in c.args.table.now) c.args.page) _ _ _ told v.1)

pub returns : goal.returns
returns c =
    let e : c.loop-i.i ≡ c.args.n = omega arith in
    rw e at c.loop-i.invariant.1 ∙ ap (λ (f : Option ℕ). is_found f) (among_all _ _ _ c.requires)

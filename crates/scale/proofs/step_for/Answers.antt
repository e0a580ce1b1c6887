use mathlib.Core.Path.{◌≡◌, refl, sym, ◌∙◌}
use Prim.Native.Nat.{◌*◌}
use native.Mathlib.Omega.{arith}
use mathlib.Core.Bool.{true}
use lib.Dec.{leb}
use borrow.Author.Tests.{leb-true}
use Rattle.scale.specs.Scale.{step_of}
use Rattle.scale.proofs.Laws.{first_here, first_behind}
use Rattle.scale.proofs.step_for.Goals as goal

pub loop-i-init : goal.loop-i-init
unfolding step_of
loop-i-init c = refl

pub returns-then-is_enough : goal.returns-then-is_enough
returns-then-is_enough c =
    let e : leb c.args.most (10 * c.step_at-step.result) ≡ true = sym c.is_enough.ensures ∙ c.if-is_enough.true in (
      first_here c.args.most c.loop-i.i c.step_at-step.result (omega arith) c.step_at-step.ensures.0 c.loop-i.invariant e,
      c.step_at-step.ensures.1,
      c.step_at-step.ensures.2,
      leb-true c.args.most (10 * c.step_at-step.result) e,
    )

pub loop-i-preserved : goal.loop-i-preserved
loop-i-preserved c =
    first_behind c.args.most c.loop-i.i c.step_at-step.result (omega arith) c.step_at-step.ensures.0 c.loop-i.invariant
    (sym c.is_enough.ensures ∙ c.if-is_enough.false)

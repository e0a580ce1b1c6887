use mathlib.Core.Path.{◌∙◌}
use native.Mathlib.Omega.{arith}
use Rattle.scale.proofs.Laws.{few_ticks, ticks_is}
use Rattle.scale.proofs.ticks_for.Goals as goal

pub returns : goal.returns
returns c =
    let s = c.step_for-step in
    let few = few_ticks c.args.most s.result s.ensures.1 s.ensures.3 in
    (c.max.ensures ∙ ticks_is c.args.most s.result s.ensures.0, omega arith, omega arith)

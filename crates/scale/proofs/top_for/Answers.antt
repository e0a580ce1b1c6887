use native.Mathlib.Omega.{arith}
use Rattle.scale.proofs.Laws.{top_is}
use Rattle.scale.proofs.top_for.Goals as goal

pub returns : goal.returns
returns c = (top_is c.args.most c.ticks_for.result c.tick_for.result c.ticks_for.ensures.0 c.tick_for.ensures.0, omega arith)

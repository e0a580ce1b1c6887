use mathlib.Core.Path.{◌∙◌}
use native.Mathlib.Omega.{arith}
use Rattle.scale.proofs.Laws.{y_is}
use Rattle.scale.proofs.y_for.Goals as goal

pub returns : goal.returns
returns c = (c.saturating_sub.ensures ∙ y_is c.args.most c.args.misses c.top_for.result c.top_for.ensures.0, omega arith)

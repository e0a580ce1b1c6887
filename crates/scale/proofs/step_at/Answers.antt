use mathlib.Core.Path.{refl}
use borrow.Author.Rules.{rules}
use Rattle.scale.proofs.Laws.{step_fits}
use Rattle.scale.proofs.step_at.Goals as goal

pub returns : goal.returns
returns c = let h = step_fits c.args.i (search rules) in (refl, h.0, h.1)

use mathlib.Core.Path.{sym, ◌∙◌}
use Rattle.worth.specs.Value.{greater_of}
use Rattle.worth.proofs.greater.Goals as goal

pub returns-then-less : goal.returns-then-less
unfolding greater_of
returns-then-less c = rw (sym c.less.ensures ∙ c.if-less.true)

pub returns : goal.returns
unfolding greater_of
returns c = rw (sym c.less.ensures ∙ c.if-less.false)

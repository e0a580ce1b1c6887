use Rattle.amend.specs.Quote.{nearer_of}
use Rattle.amend.proofs.nearer.Goals as goal

pub returns-then-last-size : goal.returns-then-last-size
unfolding nearer_of
returns-then-last-size c = rw c.if-last-size.true

pub returns-else-last-size : goal.returns-else-last-size
unfolding nearer_of
returns-else-last-size c = rw c.if-last-size.false

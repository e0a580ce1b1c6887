use Rattle.table.proofs.Held.{count_held}
use borrow.Author.Rules.{rules}
use Rattle.table.proofs.put_count.Goals as goal

pub returns : goal.returns
returns c = rw c.from.ensures (count_held c.args.table.now c.args.i c.requires.0 c.requires.1 c.args.n (search rules))

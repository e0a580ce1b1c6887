use Rattle.table.proofs.Held.{clean_held}
use Rattle.table.proofs.clean.Goals as goal

pub returns : goal.returns
returns c = clean_held c.args.table.now c.args.i c.requires.0 c.requires.1

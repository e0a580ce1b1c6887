use Rattle.trace.proofs.Laws.{told}
use Rattle.trace.proofs.summary_in.Goals as goal

pub returns : goal.returns
returns c = rw (← c.in_ok-check_in.ensures, ← told, c.read.ensures, c.get.ensures)

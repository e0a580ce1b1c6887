use mathlib.Core.Path.{sym}
use Rattle.host.proofs.Laws.{host_refused}
use Rattle.host.proofs.hitchyawl_counts.Goals as goal

pub returns-in-Ok : goal.returns-in-Ok
returns-in-Ok c = rw c.answer_of.ensures (rw c.in-Ok.ensures.same at c.counts_accepted.ensures)

pub returns-in-Err : goal.returns-in-Err
returns-in-Err c = rw c.from.ensures (host_refused _ _ _ (sym c.in-Err.ensures.value))

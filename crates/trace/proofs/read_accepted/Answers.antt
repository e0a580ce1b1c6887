use Rattle.refusal.proofs.Laws.{passed_on}
use Rattle.trace.proofs.Reading.{read_whole, read_no_room}
use Rattle.trace.proofs.read_accepted.Goals as goal

pub returns-in_err-demand : goal.returns-in_err-demand
returns-in_err-demand c =
    let a = c.args in
    let met = c.in_err-demand.ensures.first in
    rw (passed_on _ _ c.from_residual.ensures, met.1) (read_no_room a.trace.now.bytes.now a.pages.now a.kinds.now _ a.trace.now.accepted met.0)

pub returns : goal.returns
returns c =
    let a = c.args in
    read_whole a.trace.now.bytes.now a.pages.now a.kinds.now _ a.trace.now.accepted _ _ c.in_ok-demand.ensures.first c.read_records.ensures.pages_after c.read_records.ensures.kinds_after

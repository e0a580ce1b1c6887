use borrow.Author.Tests.{leb-true, leb-false}
use native.Mathlib.Omega.{arith}
use Rattle.refusal.proofs.Laws.{passed_on}
use Rattle.host.proofs.Laws.{host_no_room, host_counted}
use Rattle.host.proofs.counts_accepted.Goals as goal

pub returns-in_err-demand : goal.returns-in_err-demand
returns-in_err-demand c =
    let short = c.in_err-demand.ensures.first in
    let few = leb-false _ _ short.0 in
    rw (passed_on _ _ c.from_residual.ensures, short.1) (host_no_room _ _ _ c.args.trace.now.accepted (omega arith))

pub returns : goal.returns
returns c =
    host_counted _ _ _ c.args.trace.now.accepted _ _ _ (leb-true _ _ c.in_ok-demand.ensures.first) c.counts.ensures c.numbers-numbers.ensures c.put_numbers.ensures

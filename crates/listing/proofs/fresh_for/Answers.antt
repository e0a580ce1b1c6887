use Rattle.std.proofs.Common.{sym}
use Rattle.listing.proofs.Laws.{fresh_accepted, fresh_refused}
use Rattle.listing.proofs.fresh_for.Goals as goal

pub returns-in-Ok : goal.returns-in-Ok
returns-in-Ok c = fresh_accepted _ _ _ (sym c.in-Ok.ensures.value) c.fresh_by.ensures

pub returns-in-Err : goal.returns-in-Err
returns-in-Err c = fresh_refused _ _ _ _ (sym c.in-Err.ensures.value) c.one_frame.ensures c.fresh_by-in-Err.ensures

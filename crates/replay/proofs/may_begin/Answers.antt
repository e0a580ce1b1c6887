use Rattle.replay.specs.Calls.{may_begin}
use Rattle.replay.proofs.Begins.{passed_is}
use Rattle.replay.proofs.may_begin.Goals as goal

pub returns : goal.returns
unfolding may_begin
returns c = rw (c.is_ok.ensures.value, passed_is c.args.p.now c.check.result c.check.ensures, c.within.ensures)

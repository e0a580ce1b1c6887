use lib.ListN.{length-set}
use Rattle.entry.proofs.Laws.{log_more}
use Rattle.entry.proofs.read_log.Goals as goal

pub loop-j-preserved : goal.loop-j-preserved
loop-j-preserved c =
    let a = c.args in (
      simp length-set c.loop-j.invariant.0,
      log_more a.order a.bytes.now a.at a.to c.loop-j.j _ a.log.now c.loop-j.log c.loop-j.invariant.1 c.get.ensures,
    )

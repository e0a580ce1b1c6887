use native.Mathlib.Omega.{arith}
use Rattle.scribe.proofs.Laws.{records_more}
use Rattle.scribe.proofs.put_records.Goals as goal

pub loop-i-preserved : goal.loop-i-preserved
loop-i-preserved c =
    let a = c.args in
    (omega arith, records_more a.order a.pages.now a.kinds.now a.out.now c.loop-i.out c.put_record.new.out c.loop-i.i c.loop-i.invariant.1 c.put_record.ensures)

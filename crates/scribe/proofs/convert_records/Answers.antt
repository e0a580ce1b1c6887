use native.Mathlib.Omega.{arith}
use Rattle.trace.specs.Check.{trace_of}
use Rattle.trace.proofs.Accept.{record_within}
use Rattle.scribe.proofs.Laws.{records_more}
use Rattle.scribe.proofs.convert_records.Goals as goal

pub put_record-requires : goal.put_record-requires
put_record-requires c =
    let h = record_within _ _ c.loop-i.i c.args.trace.now.accepted (omega arith) in
    omega arith

pub loop-i-preserved : goal.loop-i-preserved
loop-i-preserved c =
    let a = c.args in
    let t = trace_of a.trace.now.bytes.now in (
      omega arith,
      records_more a.order t.pages t.kinds a.out.now c.loop-i.out c.put_record.new.out c.loop-i.i c.loop-i.invariant.1
          (rw c.record_at-record.ensures at c.put_record.ensures),
    )

use native.Mathlib.Omega.{arith}
use Rattle.text.proofs.Storing.{export_no_room, export_whole}
use Rattle.text.proofs.export_accepted.Goals as goal

pub returns-then-out-n : goal.returns-then-out-n
returns-then-out-n c =
    export_no_room c.args.trace.now.bytes.now c.args.out.now c.args.trace.now.summary c.args.trace.now.accepted c.if-out-n.true

pub returns : goal.returns
returns c =
    export_whole c.args.trace.now.bytes.now c.args.out.now c.args.trace.now.summary c.args.trace.now.accepted _ _ (omega arith) c.put_lines.ensures.value c.put_lines.ensures.out_after

use Rattle.std.proofs.Common.{arith}
use Rattle.hitchyawl.proofs.Laws.{stored_whole}
use Rattle.hitchyawl.proofs.carry.put_image.Goals as goal

pub returns : goal.returns
returns c =
    let used = c.used_frames.ensures in
    (stored_whole c.args.pool c.args.order c.args.out.now _ _ c.requires.0 (omega arith) c.requires.1 c.write.ensures, omega arith)

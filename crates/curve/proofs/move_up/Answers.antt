use Prim.Native.Nat.{◌<◌}
use lib.ListN.{length}
use Rattle.curve.proofs.Moving.{copied_down}
use Rattle.curve.proofs.move_up.Goals as goal

pub returns : goal.returns
returns c =
    let a = c.args in
    let long : a.d < length a.room.now = rw c.requires.1 c.requires.0 in
    rw c.copy_within.ensures.after (copied_down a.room.now a.d a.page long)

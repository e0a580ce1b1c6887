use Rattle.std.proofs.Common.{rules}
use Rattle.pool.proofs.Sizes.{Sized}
use Rattle.hitchyawl.proofs.Laws.{left_sound}
use Rattle.hitchyawl.proofs.carry.replay_set.Goals as goal

pub replay_ended-requires : goal.replay_ended-requires
replay_ended-requires c e =
    let z : Sized c.args.pool = record { frames = search rules; access = search rules; write = search rules } in
    left_sound c.args.pool _ c.args.bytes.now _ z c.in-Ok.ensures e

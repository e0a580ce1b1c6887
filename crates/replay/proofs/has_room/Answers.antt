use Rattle.replay.proofs.Calling.{count_of}
use Rattle.replay.proofs.has_room.Goals as goal

pub returns : goal.returns
returns c = rw (c.dirty_frames-dirty.ensures.0, c.writes-writes.ensures, count_of _ _ c.args.trace.now.accepted)

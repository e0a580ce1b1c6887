use Rattle.std.proofs.Common.{refl}
use Rattle.hitchyawl.proofs.Laws.{own_frames}
use Rattle.hitchyawl.proofs.sizes.draw.Goals as goal

pub draw-requires : goal.draw-requires
draw-requires g c = let own = own_frames _ _ (c.in-Ok.ensures.promises _ refl) in (own.0, own.1, c.requires)

use mathlib.Core.Path.{refl}
use native.Mathlib.Numerals.{add-one}
use Rattle.search.specs.Search.{every_below}
use Rattle.pool.proofs.paired.Goals as goal

pub loop-j-init : goal.loop-j-init
unfolding every_below
loop-j-init c = refl

pub loop-j-preserved : goal.loop-j-preserved
unfolding every_below
loop-j-preserved c = rw (add-one, c.loop-j.invariant, c.pair_sound-paired.ensures) refl

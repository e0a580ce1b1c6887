use mathlib.Core.Path.{refl}
use Rattle.worth.specs.Value.{less_fraction}
use Rattle.worth.proofs.less.Goals as goal

pub returns : goal.returns
unfolding less_fraction
returns c = refl

use mathlib.Core.Path.{refl}
use Rattle.worth.specs.Value.{value_of}
use Rattle.worth.proofs.value.Goals as goal

pub returns : goal.returns
unfolding value_of
returns c = refl

use mathlib.Core.Bool.{and-true}
use Rattle.settings.specs.Settings.{same_settings}
use Rattle.settings.proofs.same.Goals as goal

pub returns : goal.returns
unfolding same_settings
returns c = rw and-true c.eq.ensures

use mathlib.Core.Bool.{and-true}
use Rattle.settings.specs.Settings.{in_range}
use Rattle.settings.proofs.in_range.Goals as goal

pub returns : goal.returns
unfolding in_range
returns c =
    rw (
      c.within-7.ensures,
      c.within-6.ensures,
      c.within-5.ensures,
      c.within-4.ensures,
      c.within-3.ensures,
      c.within-2.ensures,
      c.within.ensures,
    )
    (simp and-true)

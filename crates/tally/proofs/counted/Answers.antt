use mathlib.Core.Path.{refl}
use Rattle.tally.specs.Tally.{counted_by}
use Rattle.tally.proofs.counted.Goals as goal

pub returns : goal.returns
unfolding counted_by
returns c =
    rw (
      c.one_if-5.ensures.0,
      c.one_if-4.ensures.0,
      c.one_if-3.ensures.0,
      c.one_if-2.ensures.0,
      c.one_if.ensures.0,
    ) refl

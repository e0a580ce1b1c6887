use mathlib.Core.Path.{◌≡◌}
use Rattle.search.specs.Search.{every_below}
use Rattle.image.specs.Image.{entry_zero, entry_held}
use Rattle.image.proofs.survey_of.Given as goal

abbrev pub invariant-loop-i : goal.invariant-loop-i
invariant-loop-i l = (l.zeros ≡ every_below (entry_zero l.order l.bytes) l.i) × (l.fits ≡ every_below (entry_held l.order l.bytes) l.i)

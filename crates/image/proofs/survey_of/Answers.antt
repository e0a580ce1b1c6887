use mathlib.Core.Path.{sym}
use Rattle.search.proofs.Every.{every_none, every_next}
use Rattle.image.proofs.survey_of.Goals as goal

pub loop-i-init : goal.loop-i-init
loop-i-init c = (sym (every_none _), sym (every_none _))

pub loop-i-preserved : goal.loop-i-preserved
loop-i-preserved c = (
  rw (c.loop-i.invariant.0, c.zero_right-zeros.ensures) (sym (every_next _ _)),
  rw (c.loop-i.invariant.1, c.fits-fits.ensures) (sym (every_next _ _)),
)

use Rattle.entry.specs.Entry.{entry_fits}
use Rattle.entry.proofs.fits.Goals as goal

pub returns : goal.returns
unfolding entry_fits
returns c = rw (c.get-writes.ensures, c.get-accesses.ensures, c.get-dirty.ensures, c.get-count.ensures, c.get-pins.ensures)

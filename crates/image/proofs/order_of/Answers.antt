use Rattle.image.specs.Image.{order_of}
use Rattle.image.proofs.Laws.{no_mark}
use Rattle.image.proofs.order_of.Goals as goal

pub returns-then-bytes-lt4 : goal.returns-then-bytes-lt4
unfolding order_of
returns-then-bytes-lt4 c = rw (no_mark c.args.bytes.now c.if-bytes-lt4.true)

pub returns-in-Some : goal.returns-in-Some
unfolding order_of
returns-in-Some c = rw (← c.in-Some.ensures)

pub returns-in-None : goal.returns-in-None
unfolding order_of
returns-in-None c = rw (← c.in-None.ensures)

use lib.ListN.{length}
use borrow.Author.Tests.{lt-leb, le-leb}
use Rattle.image.specs.Layout.{image_header}
use Rattle.image.specs.Image.{held_refusal}
use Rattle.image.proofs.check_held.Goals as goal

pub returns-then-bytes-lt-HEADER_LENGTH : goal.returns-then-bytes-lt-HEADER_LENGTH
unfolding held_refusal
returns-then-bytes-lt-HEADER_LENGTH c = rw (lt-leb image_header (length c.args.bytes.now) c.if-bytes-lt-HEADER_LENGTH.true)

pub returns-in-Some : goal.returns-in-Some
unfolding held_refusal
returns-in-Some c = rw (le-leb _ _ c.if-bytes-lt-HEADER_LENGTH.false, ← c.in-Some.ensures) c.check_ordered.ensures

pub returns-in-None : goal.returns-in-None
unfolding held_refusal
returns-in-None c = rw (le-leb _ _ c.if-bytes-lt-HEADER_LENGTH.false, ← c.in-None.ensures)

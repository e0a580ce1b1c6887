use Rattle.image.proofs.Laws.{image_stored}
use Rattle.image.proofs.put_image.Goals as goal

pub returns : goal.returns
returns c =
    let e = c.requires.0 in
    image_stored c.args.order c.args.p c.args.out.now _ _ (rw e at c.put_header.ensures) (rw e at c.put_entries.ensures)

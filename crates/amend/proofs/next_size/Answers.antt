use Rattle.amend.specs.Quote.{next_size}
use Rattle.amend.proofs.next_size.Goals as goal

pub returns : goal.returns
unfolding next_size
returns c =
    rw (c.nearer-8.ensures, c.nearer-7.ensures, c.nearer-6.ensures, c.nearer-5.ensures, c.nearer-4.ensures, c.nearer-high.ensures, c.nearer-3.ensures, c.nearer-2.ensures, c.nearer.ensures)

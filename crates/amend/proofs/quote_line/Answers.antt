use Rattle.amend.specs.Quote.{quote_line}
use Rattle.amend.proofs.quote_line.Goals as goal

pub returns : goal.returns
unfolding quote_line
returns c = rw (c.quote_tally-lru.ensures, c.quote_tally-clock.ensures, c.quote_tally-watt.ensures)

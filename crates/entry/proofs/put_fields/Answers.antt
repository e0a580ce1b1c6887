use Rattle.entry.proofs.Laws.{fields_stored}
use Rattle.entry.proofs.put_fields.Goals as goal

pub returns : goal.returns
returns c = let a = c.args in fields_stored a.order a.fr a.at a.out.now _ _ c.put_numbers.ensures c.put_lengths.ensures

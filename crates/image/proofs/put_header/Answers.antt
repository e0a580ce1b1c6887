use Rattle.image.proofs.Laws.{header_stored}
use Rattle.image.proofs.put_header.Goals as goal

pub returns : goal.returns
returns c =
    let a = c.args in
    header_stored a.order a.p a.used a.out.now _ _ _ c.put_front.ensures c.put.ensures c.put_back.ensures

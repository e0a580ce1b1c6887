use Rattle.settings.proofs.Places.{shorts_stored}
use Rattle.settings.proofs.put_shorts.Goals as goal

pub returns : goal.returns
returns c =
    let a = c.args in
    shorts_stored a.order a.settings a.at a.out.now _ _ _ _ _ _ c.put.ensures c.put-2.ensures c.put-3.ensures
    c.put-4.ensures c.put-5.ensures c.put-6.ensures

use Rattle.settings.proofs.Places.{settings_stored}
use Rattle.settings.proofs.put.Goals as goal

pub returns : goal.returns
returns c =
    let a = c.args in
    settings_stored a.order a.settings a.at a.out.now _ _ _ c.put_shorts.ensures c.put.ensures c.put-2.ensures

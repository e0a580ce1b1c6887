use Rattle.curve.proofs.Moving.{used}
use Rattle.curve.proofs.use_page.Goals as goal

pub returns : goal.returns
returns c =
    let p = c in
    used _ _ _ _ _ _ p.requires p.place_of-found.ensures.value p.place_of-found.ensures.upper_bound c.left_by.ensures c.move_up.ensures

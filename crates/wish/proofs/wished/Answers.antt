use Rattle.wish.proofs.Laws.{wished_is}
use Rattle.wish.proofs.wished.Goals as goal

pub returns : goal.returns
returns c =
    let a = c.args in
    wished_is _ _ _ _ _ _ _ _ a.w a.own _ c.settings_by.ensures c.chosen.ensures c.chosen-2.ensures c.chosen-3.ensures
    c.chosen-4.ensures c.chosen-5.ensures c.chosen-6.ensures c.chosen-7.ensures c.chosen-8.ensures

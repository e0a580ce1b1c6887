use Rattle.reference.proofs.Logs.{put_stays, put_goes}
use Rattle.reference.proofs.enter.Goals as goal

pub returns-then-n-newest : goal.returns-then-n-newest
returns-then-n-newest g c = put_stays _ _ _ _ _ _ c.if-n-newest.true

pub returns : goal.returns
returns g c =
    put_goes _ _ _ _ _ _ _ _ c.if-n-newest.false c.requires.2 c.requires.3 c.longer.ensures c.put_front.ensures

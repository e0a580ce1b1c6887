use Rattle.batch.proofs.Written.{wrote_one}
use Rattle.batch.proofs.write_one.Goals as goal

pub returns : goal.returns
returns c = wrote_one _ _ _ _ _ _ c.frame_at-fr.ensures c.clean.ensures

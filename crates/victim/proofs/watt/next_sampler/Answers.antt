use Rattle.victim.specs.Watt.{next_sampler}
use Rattle.victim.proofs.watt.next_sampler.Goals as goal

pub returns : goal.returns
unfolding next_sampler
returns c = c.wrapping_add_u32.ensures.value

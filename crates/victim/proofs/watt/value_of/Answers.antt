use Rattle.std.proofs.Common.{arith}
use Rattle.victim.proofs.watt.Values.{found_small}
use Rattle.victim.proofs.watt.value_of.Goals as goal

pub value-requires : goal.value-requires
value-requires c =
    let h = c.requires in
    let few = h.2 in (
      found_small _ _ _ _ _ c.log_worth-accessed.ensures h.1 h.4,
      found_small _ _ _ _ _ c.log_worth-written.ensures (omega arith) h.4,
      h.3,
    )

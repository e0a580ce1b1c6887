use native.Mathlib.Omega.{arith}
use native.Mathlib.Numerals.{add-one}
use Rattle.trace.proofs.Lists.{known_snoc, zero_snoc, writes_snoc}
use Rattle.trace.proofs.survey_of.Goals as goal

pub loop-i-preserved : goal.loop-i-preserved
loop-i-preserved c =
    let v = c.loop-i.invariant in (
      rw (add-one, known_snoc, v.0, c.get-kind.ensures),
      rw (add-one, zero_snoc, v.1, c.get.ensures),
      rw (add-one, writes_snoc, v.2, c.count_write-writes.ensures.0, c.get-kind.ensures),
      omega arith,
    )

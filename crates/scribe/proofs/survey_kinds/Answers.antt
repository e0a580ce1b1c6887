use mathlib.Core.Path.{sym}
use Prim.Native.Nat.{◌<◌}
use native.Mathlib.Omega.{arith}
use lib.ListN.{length}
use Rattle.scribe.proofs.Laws.{writes_more, known_more}
use Rattle.scribe.proofs.survey_kinds.Goals as goal

pub loop-kind-preserved : goal.loop-kind-preserved
loop-kind-preserved c =
    let kinds = c.args.kinds.now in
    let i = c.loop-kind.kind-index in
    let lt : i < length kinds = omega arith in (
      rw c.loop-kind.invariant.0 (sym (known_more kinds i lt)),
      rw (c.loop-kind.invariant.1, c.count_write.ensures.0) (sym (writes_more kinds i lt)),
      omega arith,
    )

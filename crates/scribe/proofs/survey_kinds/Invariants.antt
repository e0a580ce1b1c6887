use mathlib.Core.Path.{◌≡◌}
use Prim.Native.Nat.{◌≤◌}
use lib.ListN.{take}
use Rattle.trace.specs.Layout.{known_kinds, writes_in}
use Rattle.scribe.proofs.survey_kinds.Given as goal

abbrev pub invariant-loop-kind : goal.invariant-loop-kind
invariant-loop-kind l = (l.known ≡ known_kinds (take l.kind-index l.kinds)) × (l.writes ≡ writes_in (take l.kind-index l.kinds)) × (l.writes ≤ l.kind-index)

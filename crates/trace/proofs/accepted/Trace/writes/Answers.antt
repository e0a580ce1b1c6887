use mathlib.Core.Path.{◌∙◌}
use native.Mathlib.Omega.{arith}
use Rattle.trace.proofs.Accept.{header_within, writes_are}
use Rattle.trace.proofs.accepted.Trace.writes.Goals as goal

pub get-requires : goal.get-requires
get-requires c =
    let h = header_within _ _ c.args.self.now.accepted in
    omega arith

pub returns : goal.returns
returns c = c.get.ensures ∙ writes_are _ _ c.args.self.now.accepted

use Rattle.std.proofs.Common.{take}
use Rattle.std.specs.Prelude.{IfSome}
use Rattle.std.specs.Fmt.{HasWritten, IsPlainFormatter}
use Rattle.lines.specs.Spaced.{spaced}
use Rattle.lines.proofs.list.SpacedDisplay.fmt.Given as goal

abbrev pub invariant-loop-item : goal.invariant-loop-item
invariant-loop-item g l =
    IsPlainFormatter l.initial.f → IfSome (spaced g.T.Display.output (take l.item-index l.self.0.now)) (λ bs. HasWritten g.W.Write.write_str_gives l.initial.f bs l.f)

use mathlib.Core.Path.{sym}
use Rattle.table.specs.Table.{frame_in}
use Rattle.table.proofs.Held.{held}
use Rattle.table.proofs.frame_at.Goals as goal

pub returns : goal.returns
unfolding frame_in
returns c =
    rw (c.byte-4.ensures, c.byte-3.ensures, c.byte-2.ensures, c.byte.ensures) (sym (held c.args.table.now 128 c.args.i c.requires))

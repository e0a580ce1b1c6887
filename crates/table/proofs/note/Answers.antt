use mathlib.Core.Path.{refl}
use native.Mathlib.Omega.{arith}
use Rattle.table.specs.Table.{guess_place}
use Rattle.table.proofs.Held.{behind}
use Rattle.table.proofs.note.Goals as goal

pub returns : goal.returns
returns c = (refl, behind c.args.table.now (guess_place c.args.page) c.args.i 128 (omega arith) (omega arith))

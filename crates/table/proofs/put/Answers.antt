use Rattle.table.proofs.Held.{put_held, bit_of}
use mathlib.Core.Path.{◌∙◌}
use borrow.Author.Rules.{rules}
use Rattle.table.proofs.put.Goals as goal

pub returns : goal.returns
returns c =
    rw (c.from-3.ensures, c.from-4.ensures, c.from-5.ensures, c.from-6.ensures)
    (put_held c.args.table.now c.args.i c.requires.0 c.requires.1 c.args.fr _ _ (record { pins = search rules; count = search rules; accesses = search rules; writes = search rules }) (c.from.ensures ∙ bit_of c.args.fr.used) (c.from-2.ensures ∙ bit_of c.args.fr.dirty))

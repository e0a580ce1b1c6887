use Prim.Native.Nat.{◌*◌, ◌<◌}
use mathlib.Core.Path.{ap, ◌∙◌}
use lib.ListN.{length, get_or}
use lib.Seq.{length-sets}
use Rattle.word.specs.Number.{bytes_of}
use Rattle.host.proofs.Laws.{words_more}
use borrow.Author.Rules.{rules}
use Rattle.host.proofs.put_numbers.Goals as goal

pub loop-i-preserved : goal.loop-i-preserved
loop-i-preserved c =
    let p = c.put in
    let a = c.args in
    let n = a.l.now in
    let below : c.loop-i.i < length n = search rules in (
      ap length p.ensures ∙ length-sets c.loop-i.out (4 * c.loop-i.i) (bytes_of a.order 4 (get_or n c.loop-i.i 0)) ∙ c.loop-i.invariant.0,
      words_more a.order n a.out.now c.loop-i.out _ c.loop-i.i below c.loop-i.invariant.1 p.ensures,
    )

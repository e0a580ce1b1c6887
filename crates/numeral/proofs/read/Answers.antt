use mathlib.Core.Path.{◌≡◌, sym, ◌∙◌}
use Prim.Native.Nat.{◌<◌}
use native.Mathlib.Omega.{arith}
use lib.ListN.{length, take}
use lib.Seq.{take_all}
use Rattle.numeral.proofs.Laws.{digits_more, value_more, answer_is}
use Rattle.numeral.proofs.read.Goals as goal

pub loop-c-preserved : goal.loop-c-preserved
loop-c-preserved c =
    let text = c.args.text.now in
    let v = c.loop-c.invariant in
    let lt : c.loop-c.c-index < length text = omega arith in record {
      few = omega arith;
      digits = rw (v.digits, c.is_digit-digits.ensures) (sym (digits_more text c.loop-c.c-index lt));
      number = value_more text c.loop-c.c-index c.loop-c.n c.longer-n.result lt v.number c.longer-n.ensures;
    }

pub returns : goal.returns
returns c =
    let text = c.args.text.now in
    let v = c.loop-c.invariant in
    let t : take c.loop-c.c-index text ≡ text = take_all c.loop-c.c-index text (omega arith) in
    c.then_some.ensures ∙ answer_is text _ _ _ (rw t at v.digits) c.is_empty.ensures (rw t at v.number)

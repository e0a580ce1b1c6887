use mathlib.Core.Path.{ap, ◌∙◌}
use native.Mathlib.Omega.{arith}
use lib.ListN.{length}
use lib.Seq.{length-sets}
use Rattle.text.specs.Text.{word_of, decimal_of}
use Rattle.text.proofs.Decimal.{decimal_few}
use Rattle.text.proofs.Storing.{word_short, line_stores}
use Rattle.text.proofs.put_line.Goals as goal

pub put_bytes-requires : goal.put_bytes-requires
put_bytes-requires c =
    let a = c.args in
    let short = word_short a.kind in
    let few = decimal_few a.page in
    let same = ap length c.put_word-behind.ensures.out_after ∙ length-sets a.out.now a.at (word_of a.kind) in
    let again = ap length c.put_decimal-end.ensures.out_after ∙ length-sets c.put_word-behind.new.out c.put_word-behind.result (decimal_of a.page) in
    omega arith

pub returns-clause-value : goal.returns-clause-value
returns-clause-value c =
    let a = c.args in
    (line_stores a.kind a.page a.at c.put_word-behind.result c.put_decimal-end.result _ a.out.now c.put_word-behind.new.out c.put_decimal-end.new.out _
    c.put_word-behind.ensures.value c.put_word-behind.ensures.out_after c.put_decimal-end.ensures.value c.put_decimal-end.ensures.out_after
    c.put_bytes.ensures.value c.put_bytes.ensures.out_after).0

pub returns-clause-out_after : goal.returns-clause-out_after
returns-clause-out_after c =
    let a = c.args in
    (line_stores a.kind a.page a.at c.put_word-behind.result c.put_decimal-end.result _ a.out.now c.put_word-behind.new.out c.put_decimal-end.new.out _
    c.put_word-behind.ensures.value c.put_word-behind.ensures.out_after c.put_decimal-end.ensures.value c.put_decimal-end.ensures.out_after
    c.put_bytes.ensures.value c.put_bytes.ensures.out_after).1

use mathlib.Core.Path.{◌∙◌}
use Prim.Native.Nat.{◌<◌}
use native.Mathlib.Omega.{arith}
use Rattle.text.proofs.Decimal.{decimal_few, decimal_is}
use Rattle.text.proofs.put_decimal.Goals as goal

pub put_bytes-requires : goal.put_bytes-requires
put_bytes-requires c =
    let a = c.args in
    let fits : a.n < 4294967296 = omega arith in
    let e = decimal_is a.n c.decimal-count.result _ fits (rw c.from.ensures at c.decimal-count.ensures.len) (rw c.from.ensures at c.decimal-count.ensures.digits) in
    let few = decimal_few a.n in
    rw e (omega arith)

pub returns-clause-value : goal.returns-clause-value
returns-clause-value c =
    let a = c.args in
    let fits : a.n < 4294967296 = omega arith in
    let e = decimal_is a.n c.decimal-count.result _ fits (rw c.from.ensures at c.decimal-count.ensures.len) (rw c.from.ensures at c.decimal-count.ensures.digits) in
    c.put_bytes.ensures.value ∙ rw e

pub returns-clause-out_after : goal.returns-clause-out_after
returns-clause-out_after c =
    let a = c.args in
    let fits : a.n < 4294967296 = omega arith in
    let e = decimal_is a.n c.decimal-count.result _ fits (rw c.from.ensures at c.decimal-count.ensures.len) (rw c.from.ensures at c.decimal-count.ensures.digits) in
    c.put_bytes.ensures.out_after ∙ rw e

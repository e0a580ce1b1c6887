use mathlib.Core.Path.{◌∙◌}
use native.Mathlib.Omega.{arith}
use borrow.Author.Tests.{leb-true}
use Rattle.refusal.proofs.Laws.{passed_on}
use Rattle.curve.proofs.Counting.{sparing}
use Rattle.curve.proofs.Called.{rest_is, curve_refused, curve_given}
use Rattle.curve.proofs.accepted_misses.Goals as goal

pub returns-in_err-demand : goal.returns-in_err-demand
returns-in_err-demand c =
    let t = c.args.trace.now in
    let pins = c.in_err-demand.ensures.first in
    let rest = rest_is t.bytes.now c.args.list.now _ t.accepted _ c.pass-passed.ensures.plain_value in
    rw (passed_on _ _ c.from_residual.ensures, pins.1)
    (curve_refused _ c.args.list.now _ (rest ∙ rw pins.0) (λ z. omega arith))

pub returns-in_err-demand-2 : goal.returns-in_err-demand-2
returns-in_err-demand-2 c =
    let t = c.args.trace.now in
    let short = c.in_err-demand-2.ensures.first in
    let rest = rest_is t.bytes.now c.args.list.now _ t.accepted _ c.pass-passed.ensures.plain_value in
    rw (passed_on _ _ c.from_residual-in_err-demand-2.ensures, short.1)
    (curve_refused _ c.args.list.now _ (rest ∙ rw (c.in_ok-demand.ensures.first, short.0)) (λ z. omega arith))

pub put_curve-requires : goal.put_curve-requires
put_curve-requires c = (leb-true _ _ c.in_ok-demand-2.ensures.first, sparing _ _ _ c.pass-passed.ensures.times)

pub returns : goal.returns
returns c =
    let t = c.args.trace.now in
    curve_given t.bytes.now c.args.list.now _ t.accepted c.pass-passed.result.plain c.pass-passed.ensures.plain_value _ _
    (rw (c.in_ok-demand.ensures.first, c.in_ok-demand-2.ensures.first)) c.pass-passed.ensures.times c.put_curve.ensures

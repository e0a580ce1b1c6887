use mathlib.Core.Path.{◌≡◌, ap, ◌∙◌}
use native.Mathlib.Omega.{arith}
use lib.ListN.{length}
use Rattle.trace.specs.declared.Record.{Record}
use Rattle.trace.specs.Check.{trace_of}
use Rattle.trace.proofs.Accept.{counts_are}
use Rattle.text.specs.Text.{text_of}
use Rattle.text.proofs.Storing.{text_none, text_more}
use Rattle.text.proofs.put_lines.Goals as goal

pub loop-i-init : goal.loop-i-init
loop-i-init c =
    let a = c.args in
    let t = trace_of a.trace.now.bytes.now in
    let none = text_none t.pages t.kinds a.out.now in
    (omega arith, none.0, none.1)

pub loop-i-preserved : goal.loop-i-preserved
loop-i-preserved c =
    let a = c.args in
    let t = trace_of a.trace.now.bytes.now in
    let page = ap (λ (x : Record). x.page) c.record_at-record.ensures in
    let kind = ap (λ (x : Record). x.kind) c.record_at-record.ensures in
    let more = text_more t.pages t.kinds a.out.now c.loop-i.out c.put_line-at.new.out c.loop-i.i c.loop-i.at c.put_line-at.result
    c.record_at-record.result.page c.record_at-record.result.kind c.loop-i.invariant.1 c.loop-i.invariant.2 page kind c.put_line-at.ensures.value.0 c.put_line-at.ensures.out_after in
    let few = c.put_line-at.ensures.value.1 in
    (omega arith, more.0, more.1)

pub returns-clause-value : goal.returns-clause-value
unfolding text_of
returns-clause-value c =
    let n = counts_are c.args.trace.now.bytes.now c.args.trace.now.summary c.args.trace.now.accepted in
    let e : c.loop-i.i ≡ length (trace_of c.args.trace.now.bytes.now).pages = omega arith in
    c.loop-i.invariant.1 ∙ rw e

pub returns-clause-out_after : goal.returns-clause-out_after
unfolding text_of
returns-clause-out_after c =
    let n = counts_are c.args.trace.now.bytes.now c.args.trace.now.summary c.args.trace.now.accepted in
    let e : c.loop-i.i ≡ length (trace_of c.args.trace.now.bytes.now).pages = omega arith in
    c.loop-i.invariant.2 ∙ rw e

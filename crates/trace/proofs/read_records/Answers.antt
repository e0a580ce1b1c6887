use mathlib.Core.Path.{◌≡◌, refl, ap, ◌∙◌}
use Prim.Native.Nat.{ℕ}
use native.Mathlib.Omega.{arith}
use lib.ListN.{length-set}
use Rattle.trace.specs.Layout.{record_in}
use Rattle.trace.specs.Check.{trace_of}
use Rattle.trace.specs.declared.Record.{Record}
use Rattle.trace.proofs.Lists.{fill_more, up_to_is}
use Rattle.trace.proofs.Accept.{counts_are}
use Rattle.trace.proofs.read_records.Goals as goal

pub loop-i-preserved : goal.loop-i-preserved
loop-i-preserved c =
    let l = c in
    let a = l.args in
    let t = trace_of a.trace.now.bytes.now in
    let page : ℕ → ℕ = λ j. (record_in t j).page in
    let kind : ℕ → ℕ = λ j. (record_in t j).kind in (
      simp length-set l.loop-i.invariant.0,
      simp length-set l.loop-i.invariant.1,
      fill_more page a.pages.now l.loop-i.pages l.loop-i.i c.record_at-record.result.page l.loop-i.invariant.2 (ap (λ (r : Record). r.page) c.record_at-record.ensures),
      fill_more kind a.kinds.now l.loop-i.kinds l.loop-i.i c.record_at-record.result.kind l.loop-i.invariant.3 (ap (λ (r : Record). r.kind) c.record_at-record.ensures),
    )

pub returns-clause-pages_after : goal.returns-clause-pages_after
returns-clause-pages_after c =
    let t = trace_of c.args.trace.now.bytes.now in
    let n = counts_are c.args.trace.now.bytes.now _ c.args.trace.now.accepted in
    let all : c.loop-i.i ≡ c.args.trace.now.summary.count = omega arith in
    let p = up_to_is (λ (j : ℕ). (record_in t j).page) t.pages (λ i lt. refl) in
    c.loop-i.invariant.2 ∙ rw (all, ← n.0, p)

pub returns-clause-kinds_after : goal.returns-clause-kinds_after
returns-clause-kinds_after c =
    let t = trace_of c.args.trace.now.bytes.now in
    let n = counts_are c.args.trace.now.bytes.now _ c.args.trace.now.accepted in
    let all : c.loop-i.i ≡ c.args.trace.now.summary.count = omega arith in
    let k = up_to_is (λ (j : ℕ). (record_in t j).kind) t.kinds (λ i lt. refl) in
    c.loop-i.invariant.3 ∙ rw (all, ← n.1, k)

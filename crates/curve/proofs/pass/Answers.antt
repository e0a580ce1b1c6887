use Prim.Native.Nat.{ℕ}
use mathlib.Core.Path.{◌≡◌, ap, sym, ◌∙◌}
use native.Mathlib.Omega.{arith}
use lib.ListN.{length-set, length-replicate}
use Rattle.trace.specs.declared.Record.{Record}
use Rattle.trace.proofs.Accept.{accepted_few, counts_are}
use Rattle.curve.proofs.Counting.{stack_none, stands, stack_more, found_is, times_none, times_few, times_more, plain_none, plain_more, plain_all}
use Rattle.curve.proofs.pass.Goals as goal

pub loop-i-init : goal.loop-i-init
loop-i-init c = (length-replicate {A = ℕ} 129 0, stack_none _ _ (length-replicate {A = ℕ} 128 0), plain_none _, times_none _)

pub use_page-found-requires : goal.use_page-found-requires
use_page-found-requires c = let v = c.loop-i.invariant in stands _ _ _ _ v.1

pub overflow_add-times : goal.overflow_add-times
overflow_add-times c =
    let l = c.loop-i in
    let s = c in
    let few = times_few _ l.times l.i c.use_page-found.result l.invariant.3 c.use_page-found.ensures.few in
    let n = accepted_few _ _ s.args.trace.now.accepted in
    omega arith

pub loop-i-preserved : goal.loop-i-preserved
loop-i-preserved c =
    let r = c in
    let l = c.loop-i in
    let v = l.invariant in
    let u = c.use_page-found.ensures in
    let page = ap (λ (r : Record). r.page) r.record_at-record.ensures in
    let stack = stack_more _ _ _ _ _ _ _ v.1 page u in (
      simp length-set v.0,
      rw c.deepened_by-depth.ensures stack,
      plain_more _ _ _ _ v.2 (ap (λ (r : Record). r.kind) r.record_at-record.ensures),
      times_more _ l.times l.i _ v.0 v.3 (found_is _ _ _ _ _ _ _ v.1 page u) u.few,
    )

pub returns-clause-plain_value : goal.returns-clause-plain_value
returns-clause-plain_value c =
    let v = c.loop-i.invariant in
    let e : c.loop-i.i ≡ c.args.trace.now.summary.count = omega arith in
    v.2 ∙ plain_all _ _ (e ∙ sym (counts_are _ _ c.args.trace.now.accepted).1)

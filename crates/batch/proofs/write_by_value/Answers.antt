use Prim.Native.Nat.{◌+◌, ◌<◌}
use mathlib.Core.Path.{◌≡◌, sym, ◌∙◌}
use mathlib.Core.Bool.{false}
use native.Mathlib.Omega.{arith}
use lib.ListN.{length, length-set}
use Rattle.std.specs.Prelude.{Some}
use Rattle.search.specs.Search.{least_below}
use Rattle.batch.proofs.Batching.{starts, all_remain, marked, found_below, found_room, kept_more, turn, ends}
use Rattle.batch.proofs.Left.{marks, value_before, value_rest}
use Rattle.batch.proofs.Written.{wrote_length}
use borrow.Author.Rules.{rules}
use Rattle.batch.proofs.write_by_value.Goals as goal

pub loop-n-init : goal.loop-n-init
loop-n-init c =
    let a = c.args in
    (search rules, starts _ _ _ _ _ _, λ i _. all_remain (marks a.first.now.waiting) (value_before a.first.now.values) a.f i)

pub returns-in_default : goal.returns-in_default
returns-in_default c =
    let r = c.loop-n in
    let a = c.args.first.now in
    ends _ _ _ _ _ _ _ _ r.n r.invariant.1 _ (omega arith) (marked (marks a.waiting) (value_before a.values) _ r.n r.waiting _ r.invariant.2 (sym c.in_default.is ∙ c.next-found.ensures))

pub overflow_add-at : goal.overflow_add-at
overflow_add-at c =
    let a = c.args.first.now in
    let g : least_below (value_rest a.waiting a.values c.args.f c.loop-n.n) (value_before a.values) c.args.f ≡ Some c.in-Some.i =
    marked (marks a.waiting) (value_before a.values) c.args.f c.loop-n.n c.loop-n.waiting _ c.loop-n.invariant.2 (sym c.in-Some.is ∙ c.next-found.ensures) in
    let h : c.args.at + c.loop-n.n < length c.args.out.now = found_room _ _ _ _ _ c.args.out.now _ _ c.loop-n.n c.loop-n.invariant.1 _ g c.args.most c.loop-n-test.true c.requires.2 in
    omega arith

pub write_one-requires : goal.write_one-requires
write_one-requires c =
    let a = c.args.first.now in
    let g : least_below (value_rest a.waiting a.values c.args.f c.loop-n.n) (value_before a.values) c.args.f ≡ Some c.in-Some.i =
    marked (marks a.waiting) (value_before a.values) c.args.f c.loop-n.n c.loop-n.waiting _ c.loop-n.invariant.2 (sym c.in-Some.is ∙ c.next-found.ensures) in
    let h : c.args.at + c.loop-n.n < length c.args.out.now = found_room _ _ _ _ _ c.args.out.now _ _ c.loop-n.n c.loop-n.invariant.1 _ g c.args.most c.loop-n-test.true c.requires.2 in
    let below : c.in-Some.i < c.args.f = found_below _ _ _ _ _ _ _ _ c.loop-n.n c.loop-n.invariant.1 _ g in
    let few = c.requires.0 in
    let b : c.in-Some.i < 128 = omega arith in
    let l = wrote_length _ _ _ _ _ _ _ c.loop-n.invariant.1 in
    (b, omega arith)

pub bounds-waiting-i : goal.bounds-waiting-i
bounds-waiting-i c =
    let a = c.args.first.now in
    let g : least_below (value_rest a.waiting a.values c.args.f c.loop-n.n) (value_before a.values) c.args.f ≡ Some c.in-Some.i =
    marked (marks a.waiting) (value_before a.values) c.args.f c.loop-n.n c.loop-n.waiting _ c.loop-n.invariant.2 (sym c.in-Some.is ∙ c.next-found.ensures) in
    let below : c.in-Some.i < c.args.f = found_below _ _ _ _ _ _ _ _ c.loop-n.n c.loop-n.invariant.1 _ g in
    let few = c.requires.0 in
    let b : c.in-Some.i < 128 = omega arith in
    let l = c.loop-n.invariant.0 in
    omega arith

pub loop-n-preserved : goal.loop-n-preserved
loop-n-preserved c =
    let r = c.loop-n in
    let a = c.args.first.now in
    let g : least_below (value_rest a.waiting a.values c.args.f c.loop-n.n) (value_before a.values) c.args.f ≡ Some c.in-Some.i =
    marked (marks a.waiting) (value_before a.values) c.args.f c.loop-n.n c.loop-n.waiting _ c.loop-n.invariant.2 (sym c.in-Some.is ∙ c.next-found.ensures) in
    let below : c.in-Some.i < c.args.f = found_below _ _ _ _ _ _ _ _ c.loop-n.n c.loop-n.invariant.1 _ g in
    let few = c.requires.0 in
    let b : c.in-Some.i < 128 = omega arith in
    let here : c.in-Some.i < length r.waiting = rw r.invariant.0 b in (
      length-set r.waiting _ _ ∙ r.invariant.0,
      turn _ _ _ _ _ _ _ _ r.n r.invariant.1 _ g _ _ c.write_one.ensures,
      kept_more _ _ _ _ _ _ _ _ r.n r.invariant.1 _ g (λ b _. b) r.waiting false here r.invariant.2,
    )

pub returns : goal.returns
returns c = let e : c.loop-n.n ≡ c.args.most = omega arith in rw e at c.loop-n.invariant.1

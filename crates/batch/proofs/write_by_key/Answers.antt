use Prim.Native.Nat.{◌+◌, ◌%◌, ◌<◌}
use mathlib.Core.Path.{◌≡◌, ap, ◌∙◌}
use mathlib.Core.Bool.{Bool}
use native.Mathlib.Omega.{arith}
use lib.ListN.{length, length-set}
use Rattle.std.specs.Prelude.{Some}
use Rattle.search.specs.Search.{least_below}
use Rattle.search.specs.ForCode.{keyed}
use Rattle.batch.specs.ForCode.{has_key, key_rank}
use Rattle.batch.proofs.Batching.{starts, all_remain, found_room, kept_more, turn, ends}
use Rattle.batch.proofs.Written.{wrote_length}
use Rattle.batch.proofs.Keyed.{lowest_found, lowest_nothing}
use Rattle.batch.proofs.Left.{key_before, key_rest, small_ranks}
use borrow.Author.Rules.{rules}
use Rattle.batch.proofs.write_by_key.Goals as goal

pub loop-n-init : goal.loop-n-init
loop-n-init c =
    let k = c.args.keys.now in
    (c.requires.1, starts _ _ _ _ _ _, λ i l. (c.requires.2 i l).0 ∙ ap (λ (b : Bool). keyed b (key_rank k i) i) (all_remain (has_key k) (key_before k) c.args.f i))

pub returns-then-low : goal.returns-then-low
returns-then-low c =
    let r = c.loop-n in
    let k = c.args.keys.now in
    ends _ _ _ _ _ _ _ _ r.n r.invariant.1 _ (omega arith)
    (lowest_nothing r.keys (key_rest k c.args.f r.n) (key_rank k) c.loop-n.invariant.0 c.args.f c.lowest-low.result c.requires.0 r.invariant.2 (small_ranks k c.args.f r.n c.requires.2) c.lowest-low.ensures c.if-low.true)

pub overflow_add-at : goal.overflow_add-at
overflow_add-at c =
    let k = c.args.keys.now in
    let g : least_below (key_rest k c.args.f c.loop-n.n) (key_before k) c.args.f ≡ Some (c.lowest-low.result % 128) =
    lowest_found c.loop-n.keys (key_rest k c.args.f c.loop-n.n) (key_rank k) c.loop-n.invariant.0 c.args.f c.lowest-low.result c.requires.0 c.loop-n.invariant.2 (small_ranks k c.args.f c.loop-n.n c.requires.2) c.lowest-low.ensures c.if-low.false in
    let h : c.args.at + c.loop-n.n < length c.args.out.now = found_room _ _ _ _ _ c.args.out.now _ _ c.loop-n.n c.loop-n.invariant.1 _ g c.args.most c.loop-n-test.true c.requires.3 in
    omega arith

pub write_one-requires : goal.write_one-requires
write_one-requires c =
    let k = c.args.keys.now in
    let g : least_below (key_rest k c.args.f c.loop-n.n) (key_before k) c.args.f ≡ Some (c.lowest-low.result % 128) =
    lowest_found c.loop-n.keys (key_rest k c.args.f c.loop-n.n) (key_rank k) c.loop-n.invariant.0 c.args.f c.lowest-low.result c.requires.0 c.loop-n.invariant.2 (small_ranks k c.args.f c.loop-n.n c.requires.2) c.lowest-low.ensures c.if-low.false in
    let h : c.args.at + c.loop-n.n < length c.args.out.now = found_room _ _ _ _ _ c.args.out.now _ _ c.loop-n.n c.loop-n.invariant.1 _ g c.args.most c.loop-n-test.true c.requires.3 in
    let l = wrote_length _ _ _ _ _ _ _ c.loop-n.invariant.1 in
    (search rules, omega arith)

pub loop-n-preserved : goal.loop-n-preserved
loop-n-preserved c =
    let r = c.loop-n in
    let k = c.args.keys.now in
    let g : least_below (key_rest k c.args.f c.loop-n.n) (key_before k) c.args.f ≡ Some (c.lowest-low.result % 128) =
    lowest_found c.loop-n.keys (key_rest k c.args.f c.loop-n.n) (key_rank k) c.loop-n.invariant.0 c.args.f c.lowest-low.result c.requires.0 c.loop-n.invariant.2 (small_ranks k c.args.f c.loop-n.n c.requires.2) c.lowest-low.ensures c.if-low.false in
    let here : c.lowest-low.result % 128 < length r.keys = rw r.invariant.0 (omega arith) in (
      length-set r.keys _ _ ∙ r.invariant.0,
      turn _ _ _ _ _ _ _ _ r.n r.invariant.1 _ g _ _ c.write_one.ensures,
      kept_more _ _ _ _ _ _ _ _ r.n r.invariant.1 _ g (λ b j. keyed b (key_rank k j) j) r.keys 0 here r.invariant.2,
    )

pub returns : goal.returns
returns c = let e : c.loop-n.n ≡ c.args.most = omega arith in rw e at c.loop-n.invariant.1

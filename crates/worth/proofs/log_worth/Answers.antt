use Prim.Native.Nat.{◌≤◌}
use mathlib.Core.Path.{◌≡◌, refl, ◌∙◌, ap}
use native.Mathlib.Omega.{arith}
use borrow.Author.Rules.{rules}
use Rattle.limit.specs.Limits.{reference_limit}
use Rattle.worth.specs.Value.{age_of, worth_of}
use Rattle.worth.specs.Sizes.{Small}
use Rattle.worth.proofs.Sizes.{small, age_small, part_small, worth_small, worth_turn, entry_at, log_length}
use Rattle.worth.proofs.log_worth.Goals as goal

pub loop-j-init : goal.loop-j-init
unfolding worth_of
loop-j-init c = refl

pub part-next-requires : goal.part-next-requires
part-next-requires c =
    let a = c.args in
    let e = entry_at a.a.now a.at a.len c.loop-j.j c.requires.0 c.loop-j-test.true in
    omega arith

pub greater-best-requires : goal.greater-best-requires
greater-best-requires c =
    let a = c.args in
    let j = c.loop-j.j in
    let h = c.requires.2 in
    let e = entry_at a.a.now a.at a.len j c.requires.0 c.loop-j-test.true in
    let young : c.age.result ≤ reference_limit = rw c.age.ensures (age_small _ _ h) in
    let best : Small c.loop-j.best = rw c.loop-j.invariant (small _ (worth_small _ _ _ _ (omega arith) h)) in
    let next : Small c.part-next.result = rw c.part-next.ensures (small _ (part_small j c.age.result (omega arith) young)) in
    search rules

pub loop-j-preserved : goal.loop-j-preserved
loop-j-preserved c =
    let a = c.args in
    let e = entry_at a.a.now a.at a.len c.loop-j.j c.requires.0 c.loop-j-test.true in
    worth_turn a.a.now a.at c.loop-j.j a.epoch _ _ _ _ c.greater-best.ensures c.loop-j.invariant c.part-next.ensures
    (c.age.ensures ∙ ap (age_of a.epoch) e.1)

pub returns : goal.returns
returns c =
    let a = c.args in
    let n = log_length a.a.now a.at a.len c.requires.0 in
    let e : c.loop-j.j ≡ a.len = omega arith in
    c.loop-j.invariant ∙ ap (λ (k : _). worth_of a.a.now a.at k a.epoch) e

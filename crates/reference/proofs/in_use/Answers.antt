use Prim.Native.Nat.{ℕ, ◌+◌}
use mathlib.Core.Path.{ap, sym, ◌∙◌}
use native.Mathlib.Omega.{arith}
use Rattle.pool.specs.declared.Frame.{Frame}
use Rattle.search.proofs.Count.{one_few}
use Rattle.table.proofs.Held.{bit_of}
use Rattle.reference.proofs.InUse.{in_use_none, in_use_more, in_use_all}
use borrow.Author.Rules.{rules}
use Rattle.reference.proofs.in_use.Goals as goal

pub returns-then-frame_at : goal.returns-then-frame_at
returns-then-frame_at c =
    let e = c.from-f.ensures in
    let last = sym (ap (λ (fr : Frame). fr.used) c.frame_at.ensures) ∙ c.if-frame_at.true in
    e ∙ in_use_all _ _ c.requires.0 c.requires.1 c.requires.2 (rw e at last)

pub loop-i-init : goal.loop-i-init
loop-i-init c = (search rules, in_use_none _)

pub loop-i-preserved : goal.loop-i-preserved
loop-i-preserved c =
    let few = c.requires.1 in
    let lt = c.loop-i-test.true in
    let used = sym (ap (λ (fr : Frame). fr.used) c.frame_at-in-loop-i.ensures) in
    let e = c.from-f.ensures in
    let one = c.from-n.ensures ∙ bit_of _ in
    let v = c.loop-i.invariant in
    (grind (arith, one_few), ap (λ (k : ℕ). c.loop-i.n + k) one ∙ in_use_more _ _ _ _ c.requires.2 (omega arith) v.1 used)

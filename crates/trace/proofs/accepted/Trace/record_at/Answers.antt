use native.Mathlib.Omega.{arith}
use Rattle.trace.proofs.Accept.{record_within, record_is, accepted_few}
use Rattle.trace.proofs.accepted.Trace.record_at.Goals as goal

pub overflow_mul-at : goal.overflow_mul-at
overflow_mul-at c =
    let few = accepted_few _ _ c.args.self.now.accepted in
    omega arith

pub overflow_add-at : goal.overflow_add-at
overflow_add-at c =
    let few = accepted_few _ _ c.args.self.now.accepted in
    omega arith

pub get-requires : goal.get-requires
get-requires c =
    let h = record_within _ _ c.args.i c.args.self.now.accepted c.requires in
    omega arith

pub overflow_add-at-2 : goal.overflow_add-at-2
overflow_add-at-2 c =
    let few = accepted_few _ _ c.args.self.now.accepted in
    omega arith

pub get-requires-2 : goal.get-requires-2
get-requires-2 c =
    let h = record_within _ _ c.args.i c.args.self.now.accepted c.requires in
    omega arith

pub returns : goal.returns
returns c = rw (c.get-2.ensures, c.get.ensures) (record_is _ _ c.args.i c.args.self.now.accepted c.requires)

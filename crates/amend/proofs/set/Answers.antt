use mathlib.Core.Path.{refl}
use Prim.Native.Nat.{ℕ}
use native.Mathlib.Omega.{arith}
use lib.ListN.{length-replicate}
use Rattle.word.proofs.Laws.{Bytes, bytes_of_lem}
use Rattle.refusal.proofs.Laws.{passed_on}
use Rattle.trace.specs.Layout.{record_limit}
use Rattle.trace.proofs.Whole.{proper}
use Rattle.trace.proofs.Reading.{read_gives, read_refuses}
use Rattle.amend.proofs.Laws.{amended, set_refused, set_written}
use Rattle.amend.proofs.set.Goals as goal

pub set_accepted-requires : goal.set_accepted-requires
set_accepted-requires c =
    let s = c.args.bytes.now in
    let bs : Bytes s = bytes_of_lem s (λ i. let f = c.type_inv.bytes i in omega arith) in
    let given = read_gives s _ _ _ _ _ _ bs c.in_ok-summary.ensures.read_into refl in
    rw given.1 (proper s bs given.0).few

pub returns-in_err-summary-clause-set_into : goal.returns-in_err-summary-clause-set_into
returns-in_err-summary-clause-set_into c =
    let s = c.args.bytes.now in
    let bs : Bytes s = bytes_of_lem s (λ i. let f = c.type_inv.bytes i in omega arith) in
    let long = length-replicate {A = ℕ} record_limit 0 in
    let refused = read_refuses s _ _ _ _ _ _ bs c.in_err-summary.ensures.read_into (omega arith) (omega arith) refl in
    rw (passed_on _ _ c.from_residual.ensures) (set_refused s c.args.wish c.args.out.now _ refused.0 refused.1).0

pub returns-clause-set_into : goal.returns-clause-set_into
returns-clause-set_into c =
    let a = c.args in
    let s = a.bytes.now in
    let bs : Bytes s = bytes_of_lem s (λ i. let f = c.type_inv.bytes i in omega arith) in
    let given = read_gives s _ _ _ _ _ _ bs c.in_ok-summary.ensures.read_into refl in
    let t = amended s a.wish _ _ _ given.1 given.2 given.3 in
    (set_written s a.wish a.out.now _ _ _ bs given.0 t c.set_accepted.ensures.written_to c.set_accepted.ensures.reads_back).0

pub returns-clause-sets_back : goal.returns-clause-sets_back
returns-clause-sets_back c =
    let a = c.args in
    let s = a.bytes.now in
    let bs : Bytes s = bytes_of_lem s (λ i. let f = c.type_inv.bytes i in omega arith) in
    let given = read_gives s _ _ _ _ _ _ bs c.in_ok-summary.ensures.read_into refl in
    let t = amended s a.wish _ _ _ given.1 given.2 given.3 in
    (set_written s a.wish a.out.now _ _ _ bs given.0 t c.set_accepted.ensures.written_to c.set_accepted.ensures.reads_back).1

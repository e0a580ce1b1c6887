use mathlib.Core.Path.{sym}
use native.Mathlib.Omega.{arith}
use Rattle.word.proofs.Laws.{Bytes, bytes_of_lem}
use Rattle.refusal.proofs.Laws.{passed_on}
use Rattle.scribe.proofs.Converting.{convert_refused, converts_back}
use Rattle.scribe.proofs.convert.Goals as goal

pub returns-in_err-trace-clause-converted_to : goal.returns-in_err-trace-clause-converted_to
returns-in_err-trace-clause-converted_to c =
    rw (passed_on _ _ c.from_residual.ensures) (convert_refused c.args.bytes.now c.args.out.now _ (sym c.in_err-trace.ensures.value))

pub returns-in_err-trace-clause-converts_back : goal.returns-in_err-trace-clause-converts_back
returns-in_err-trace-clause-converts_back c =
    let s = c.args.bytes.now in
    let bs : Bytes s = bytes_of_lem s (λ i. let f = c.type_inv.bytes i in omega arith) in
    converts_back s c.args.out.now _ _ bs (returns-in_err-trace-clause-converted_to c)

pub returns-clause-converted_to : goal.returns-clause-converted_to
returns-clause-converted_to c = rw c.in_ok-trace.ensures.same at c.convert_accepted.ensures

pub returns-clause-converts_back : goal.returns-clause-converts_back
returns-clause-converts_back c =
    let s = c.args.bytes.now in
    let bs : Bytes s = bytes_of_lem s (λ i. let f = c.type_inv.bytes i in omega arith) in
    converts_back s c.args.out.now _ _ bs (returns-clause-converted_to c)

use mathlib.Core.Path.{sym}
use native.Mathlib.Omega.{arith}
use Rattle.word.proofs.Laws.{Bytes, bytes_of_lem}
use Rattle.refusal.proofs.Laws.{passed_on}
use Rattle.trace.proofs.Reading.{read_refused, writes_again}
use Rattle.trace.proofs.read.Goals as goal

pub returns-in_err-trace-clause-read_into : goal.returns-in_err-trace-clause-read_into
returns-in_err-trace-clause-read_into c =
    rw (passed_on _ _ c.from_residual.ensures) (read_refused c.args.bytes.now c.args.pages.now c.args.kinds.now _ (sym c.in_err-trace.ensures.value))

pub returns-clause-read_into : goal.returns-clause-read_into
returns-clause-read_into c = rw c.in_ok-trace.ensures.same at c.read_accepted.ensures

pub returns-clause-writes_again : goal.returns-clause-writes_again
returns-clause-writes_again c =
    let s = c.args.bytes.now in
    let bs : Bytes s = bytes_of_lem s (λ i. let f = c.type_inv.bytes i in omega arith) in
    writes_again s c.args.pages.now c.args.kinds.now _ _ _ bs (returns-clause-read_into c)

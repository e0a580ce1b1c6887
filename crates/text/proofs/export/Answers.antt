use mathlib.Core.Path.{sym}
use Rattle.refusal.proofs.Laws.{passed_on}
use Rattle.text.proofs.Storing.{export_refused}
use Rattle.text.proofs.export.Goals as goal

pub returns-in_err-trace : goal.returns-in_err-trace
returns-in_err-trace c =
    let a = c.args in
    rw (passed_on _ _ c.from_residual.ensures) (export_refused a.bytes.now a.out.now _ (sym c.in_err-trace.ensures.value))

pub returns : goal.returns
returns c = rw c.in_ok-trace.ensures.same at c.export_accepted.ensures

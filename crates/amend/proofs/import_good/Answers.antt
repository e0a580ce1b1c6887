use native.Mathlib.Omega.{arith}
use Rattle.amend.proofs.Laws.{import_many}
use Rattle.amend.proofs.import_good.Goals as goal

pub returns-then-n-gt-RECORD_LIMIT-clause-imported_into : goal.returns-then-n-gt-RECORD_LIMIT-clause-imported_into
returns-then-n-gt-RECORD_LIMIT-clause-imported_into c =
    let e = c.requires.0 in
    (import_many c.args.text.now c.args.wish c.args.order c.args.out.now c.requires.1 (omega arith)).0

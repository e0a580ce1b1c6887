use mathlib.Core.Path.{sym}
use Prim.Native.Nat.{ℕ, ◌<◌}
use native.Mathlib.Omega.{arith}
use lib.ListN.{length, get_or}
use Rattle.refusal.proofs.Laws.{number_some, passed_on}
use Rattle.settings.proofs.Owned.{seed_fits}
use Rattle.trace.specs.Layout.{trace_from}
use Rattle.scribe.proofs.Laws.{granted}
use Rattle.scribe.proofs.Writing.{write_whole, write_refused, reads_back}
use Rattle.scribe.proofs.write.Goals as goal

pub returns-in_err-check_write-clause-written_to : goal.returns-in_err-check_write-clause-written_to
returns-in_err-check_write-clause-written_to c =
    let a = c.args in
    let t = trace_from a.settings a.order a.pages.now a.kinds.now in
    let some = number_some c.in_err-check_write.field-0.0 in
    rw (passed_on _ _ c.from_residual.ensures) (write_refused t a.out.now _ c.in_err-check_write.ensures (λ z. omega arith))

pub returns-in_err-check_write-clause-reads_back : goal.returns-in_err-check_write-clause-reads_back
returns-in_err-check_write-clause-reads_back c =
    let some = number_some c.in_err-check_write.field-0.0 in
    rw (passed_on _ _ c.from_residual.ensures) (λ z. absurd (omega arith))

pub put_trace-requires : goal.put_trace-requires
put_trace-requires c =
    let a = c.args in
    let t = trace_from a.settings a.order a.pages.now a.kinds.now in
    let seed = seed_fits a.settings _ c.well_formed.0 in
    let page : (i : ℕ) → get_or a.pages.now i 0 < 4294967296 = λ i. let f = c.type_inv.pages i in omega arith in
    let g = granted t (length a.out.now) seed page (sym c.in_ok-check_write.ensures) in
    (g.0.same, g.0.few, g.1)

pub returns-clause-written_to : goal.returns-clause-written_to
returns-clause-written_to c =
    let a = c.args in
    write_whole (trace_from a.settings a.order a.pages.now a.kinds.now) a.out.now _ (sym c.in_ok-check_write.ensures) c.put_trace.ensures

pub returns-clause-reads_back : goal.returns-clause-reads_back
returns-clause-reads_back c =
    let a = c.args in
    let t = trace_from a.settings a.order a.pages.now a.kinds.now in
    let seed = seed_fits a.settings _ c.well_formed.0 in
    let page : (i : ℕ) → get_or a.pages.now i 0 < 4294967296 = λ i. let f = c.type_inv.pages i in omega arith in
    reads_back t a.out.now _ _ seed page (returns-clause-written_to c)

use native.Mathlib.Omega.{arith}
use borrow.Author.Tests.{leb-true, leb-false}
use Rattle.refusal.proofs.Laws.{passed_on}
use Rattle.trace.proofs.Accept.{accepted_passed}
use Rattle.scribe.proofs.Converting.{convert_stores, convert_whole, convert_no_room}
use Rattle.scribe.proofs.convert_accepted.Goals as goal

pub returns-in_err-demand : goal.returns-in_err-demand
returns-in_err-demand c =
    let unmet = c.in_err-demand.ensures.first in
    let short = leb-false _ _ unmet.0 in
    rw (passed_on _ _ c.from_residual.ensures, unmet.1) (convert_no_room _ _ c.args.out.now c.args.trace.now.accepted (omega arith))

pub put_header-requires : goal.put_header-requires
put_header-requires c =
    let p = accepted_passed _ _ c.args.trace.now.accepted in
    let long = p.0.laid.long in
    let few = p.0.laid.few in
    let n = p.1 in
    let fits = leb-true _ _ c.in_ok-demand.ensures.first in
    (omega arith, omega arith)

pub convert_records-requires : goal.convert_records-requires
convert_records-requires c =
    let fits = leb-true _ _ c.in_ok-demand.ensures.first in
    omega arith

pub returns : goal.returns
returns c =
    let accepted = c.args.trace.now.accepted in
    let fits = leb-true _ _ c.in_ok-demand.ensures.first in
    let held = convert_stores _ _ c.other_order-to.result c.writes-writes.result c.args.out.now _ _ accepted c.other_order-to.ensures c.writes-writes.ensures c.put_header.ensures c.convert_records.ensures in
    convert_whole _ _ c.args.out.now _ accepted fits held

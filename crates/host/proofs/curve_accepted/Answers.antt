use Prim.Native.Nat.{ℕ}
use mathlib.Core.Path.{refl}
use native.Mathlib.Omega.{arith}
use lib.ListN.{length-replicate}
use borrow.Author.Tests.{leb-true, leb-false}
use Rattle.refusal.proofs.Laws.{passed_on, number_some}
use Rattle.host.proofs.Laws.{curve_pins, curve_no_room, curve_stored}
use Rattle.host.proofs.curve_accepted.Goals as goal

pub returns-in_err-accepted_misses : goal.returns-in_err-accepted_misses
returns-in_err-accepted_misses c =
    let t = c.args.trace.now in
    let some = number_some c.in_err-accepted_misses.field-0.0 in
    rw (passed_on _ _ c.from_residual.ensures)
    (curve_pins t.bytes.now c.args.out.now _ t.accepted _ _ (length-replicate {A = ℕ} 128 0) _ c.in_err-accepted_misses.ensures (λ z. omega arith))

pub returns-in_err-demand : goal.returns-in_err-demand
returns-in_err-demand c =
    let t = c.args.trace.now in
    let short = c.in_err-demand.ensures.first in
    let few = leb-false _ _ short.0 in
    rw (passed_on _ _ c.from_residual-in_err-demand.ensures, short.1)
    (curve_no_room t.bytes.now c.args.out.now _ t.accepted _ _ (length-replicate {A = ℕ} 128 0) _ c.in_ok-accepted_misses.ensures refl (omega arith))

pub returns : goal.returns
returns c =
    let t = c.args.trace.now in
    curve_stored t.bytes.now c.args.out.now _ t.accepted _ _ (length-replicate {A = ℕ} 128 0) _ c.in_ok-accepted_misses.ensures _ refl
    (leb-true _ _ c.in_ok-demand.ensures.first) c.put_numbers.ensures

use mathlib.Core.Path.{sym, ap}
use native.Mathlib.Omega.{arith}
use Rattle.refusal.proofs.Laws.{passed_on}
use Rattle.pool.specs.Pool.{refused_pool, opened_by}
use Rattle.image.proofs.Laws.{number_ne, holds_marked, held_none, held_whole}
use Rattle.image.proofs.held.Goals as goal

pub returns-in_err-check_held : goal.returns-in_err-check_held
returns-in_err-check_held c =
    held_none c.args.bytes.now _ _ c.in_err-check_held.ensures (number_ne _) (ap opened_by (passed_on c.from_residual.result (refused_pool c.in_err-check_held.field-0.0) c.from_residual.ensures))

pub get-used-requires : goal.get-used-requires
get-used-requires c =
    let h = (holds_marked c.args.bytes.now (sym c.in_ok-check_held.ensures)).laid.long in
    omega arith

pub pool_to-requires : goal.pool_to-requires
pool_to-requires c =
    let h = holds_marked c.args.bytes.now (sym c.in_ok-check_held.ensures) in
    let long = h.laid.long in
    rw (c.get-used.ensures, c.order_of-order.ensures) (h.fill.few, omega arith, h.fill.fits)

pub returns : goal.returns
returns c =
    held_whole c.args.bytes.now _ _ _ (sym c.in_ok-check_held.ensures) c.order_of-order.ensures c.get-used.ensures c.pool_to.ensures

use mathlib.Core.Path.{refl}
use Rattle.refusal.proofs.Laws.{passed_on}
use Rattle.image.proofs.Laws.{number_ne, save_unsound, save_roomless, save_whole}
use Rattle.image.proofs.write.Goals as goal

pub returns-in_err-check : goal.returns-in_err-check
returns-in_err-check c =
    let a = c.args in
    rw (passed_on _ _ c.from_residual.ensures) (save_unsound a.pool a.order a.out.now _ c.in_err-check.ensures (number_ne _))

pub returns-then-out-used : goal.returns-then-out-used
returns-then-out-used c =
    let a = c.args in
    save_roomless a.pool a.order a.out.now _ _ c.in_ok-check.ensures refl c.used_frames-used.ensures.0 c.if-out-used.true

pub returns : goal.returns
returns c =
    let a = c.args in
    save_whole a.pool a.order a.out.now _ _ _ c.in_ok-check.ensures refl c.used_frames-used.ensures.0 c.if-out-used.false c.put_image.ensures

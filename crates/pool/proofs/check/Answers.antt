use mathlib.Core.Path.{sym, ◌∙◌}
use Rattle.std.proofs.lemmas.Result.{err_from_is_err_and}
use Rattle.settings.proofs.Laws.{ranges}
use Rattle.pool.proofs.ByFrame.{check_ranged, check_outside}
use Rattle.pool.proofs.check.Goals as goal

pub returns-in_err-demand : goal.returns-in_err-demand
returns-in_err-demand c =
    let p = err_from_is_err_and c.from_residual.result c.from_residual.ensures.1 in
    let a = c.in_err-demand.ensures.first in
    rw (p.1, p.2, a.1) (check_outside _ (sym c.in_range.ensures ∙ a.0))

pub frames_sound-requires : goal.frames_sound-requires
frames_sound-requires c = (ranges _ (sym c.in_range.ensures ∙ c.in_ok-demand.ensures.first)).span.0

pub returns : goal.returns
returns c = check_ranged _ _ _ (sym c.in_range.ensures ∙ c.in_ok-demand.ensures.first) c.frames_sound.ensures c.demand-2.ensures.answer

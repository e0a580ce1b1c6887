use mathlib.Core.Path.{sym, ◌∙◌}
use Rattle.std.proofs.lemmas.Result.{err_from_is_err_and}
use Rattle.pool.proofs.Laws.{fresh_whole, fresh_small}
use Rattle.pool.proofs.fresh.Goals as goal

pub returns-in_err-demand : goal.returns-in_err-demand
returns-in_err-demand c =
    let p = err_from_is_err_and c.from_residual.result c.from_residual.ensures.1 in
    let a = c.in_err-demand.ensures.first in
    rw (p.1, p.2, a.1) (fresh_small _ (sym c.in_range.ensures ∙ a.0))

pub returns : goal.returns
returns c = fresh_whole _ _ (sym c.in_range.ensures ∙ c.in_ok-demand.ensures.first) c.empty.ensures

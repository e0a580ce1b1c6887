use mathlib.Core.Path.{sym, ◌∙◌}
use Rattle.std.proofs.lemmas.Result.{err_from_is_err_and}
use Rattle.replay.proofs.Stepping.{step_unsound, step_unknown, step_known}
use Rattle.replay.proofs.check_step.Goals as goal

pub returns-in_err-demand : goal.returns-in_err-demand
returns-in_err-demand c =
    let p = err_from_is_err_and c.from_residual.result c.from_residual.ensures.1 in
    let a = c.in_err-demand.ensures.first in
    rw (p.1, p.2, a.1) (sym (step_unsound _ _ _ _ (sym c.may_begin.ensures ∙ a.0)))

pub returns-in_err-demand-2 : goal.returns-in_err-demand-2
returns-in_err-demand-2 c =
    let p = err_from_is_err_and c.from_residual-in_err-demand-2.result c.from_residual-in_err-demand-2.ensures.1 in
    let a = c.in_err-demand-2.ensures.first in
    rw (p.1, p.2, a.1) (sym (step_unknown _ _ _ _ (sym c.may_begin.ensures ∙ c.in_ok-demand.ensures.first) a.0))

pub returns : goal.returns
returns c =
    c.demand-3.ensures.answer ∙ sym (step_known _ _ _ _ (sym c.may_begin.ensures ∙ c.in_ok-demand.ensures.first) c.in_ok-demand-2.ensures.first)

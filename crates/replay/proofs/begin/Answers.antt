use mathlib.Core.Path.{sym, ◌∙◌}
use Rattle.std.proofs.lemmas.Result.{err_from_is_err_and}
use Rattle.replay.proofs.Calling.{settings_of_lem, not_begun, trace_refused, trace_accepted}
use Rattle.replay.proofs.begin.Goals as goal

pub returns-in_err-demand : goal.returns-in_err-demand
returns-in_err-demand c =
    let p = err_from_is_err_and c.from_residual.result c.from_residual.ensures.1 in
    let a = c.in_err-demand.ensures.first in
    rw (p.1, p.2, a.1) (record { ok = tt; err = not_begun _ _ _ (sym c.may_begin.ensures ∙ a.0) })

pub returns-in_err-trace : goal.returns-in_err-trace
returns-in_err-trace c =
    let p = err_from_is_err_and c.from_residual-in_err-trace.result c.from_residual-in_err-trace.ensures.1 in
    let begins = sym c.may_begin.ensures ∙ c.in_ok-demand.ensures.first in
    rw (p.1, p.2) (record { ok = tt; err = (trace_refused _ _ _ _ begins (sym c.in_err-trace.ensures.value)).0 })

pub returns-in_err-demand-2 : goal.returns-in_err-demand-2
returns-in_err-demand-2 c =
    let p = err_from_is_err_and c.from_residual-in_err-demand-2.result c.from_residual-in_err-demand-2.ensures.1 in
    let begins = sym c.may_begin.ensures ∙ c.in_ok-demand.ensures.first in
    let accepted = sym c.in_ok-trace.ensures.value in
    let a = c.in_err-demand-2.ensures.first in
    let same = sym (settings_of_lem _ _ c.args.pool.now.settings accepted) ∙ sym c.same.ensures ∙ a.0 in
    rw (p.1, p.2, a.1) (record { ok = tt; err = trace_accepted _ _ _ _ begins accepted ∙ rw same })

pub returns : goal.returns
returns c =
    let begins = sym c.may_begin.ensures ∙ c.in_ok-demand.ensures.first in
    let accepted = sym c.in_ok-trace.ensures.value in
    let same = sym (settings_of_lem _ _ c.args.pool.now.settings accepted) ∙ sym c.same.ensures ∙ c.in_ok-demand-2.ensures.first in
    record { ok = (c.in_ok-trace.ensures.same, begins, trace_accepted _ _ _ _ begins accepted ∙ rw same); err = tt }

use mathlib.Core.Path.{sym, ◌∙◌}
use Rattle.wish.proofs.Laws.{fitting, not_fitting}
use Rattle.wish.proofs.settings_by.Goals as goal

pub returns-then-fit : goal.returns-then-fit
returns-then-fit c =
    let a = c.args in
    fitting a.rule a.frames a.batch a.cap a.sample a.weight a.span a.seed (sym c.fit.ensures ∙ c.if-fit.true)

pub returns : goal.returns
returns c =
    let a = c.args in
    not_fitting a.rule a.frames a.batch a.cap a.sample a.weight a.span a.seed _ (sym c.fit.ensures ∙ c.if-fit.false) c.no_settings.ensures

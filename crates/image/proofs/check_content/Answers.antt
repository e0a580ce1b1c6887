use mathlib.Core.Path.{◌∙◌}
use Rattle.refusal.proofs.Laws.{passed_on}
use Rattle.image.specs.Image.{content_refusal}
use Rattle.image.proofs.check_content.Goals as goal

pub returns-in_err-demand : goal.returns-in_err-demand
unfolding content_refusal
returns-in_err-demand c =
    let f = c.in_err-demand.ensures.first in
    let zeros = rw (c.header_zeros-zeros.ensures, c.survey_of-found.ensures.0, c.get-used.ensures) at f.0 in
    rw (passed_on _ _ c.from_residual.ensures, f.1, zeros)

pub returns : goal.returns
unfolding content_refusal
returns c =
    let zeros = rw (c.header_zeros-zeros.ensures, c.survey_of-found.ensures.0, c.get-used.ensures) at c.in_ok-demand.ensures.first in
    c.demand-2.ensures.answer ∙ rw (zeros, c.survey_of-found.ensures.1, c.get-used.ensures)

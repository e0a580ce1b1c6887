use mathlib.Core.Path.{ap, sym, ◌∙◌}
use Rattle.pool.specs.Sound.{holds_page}
use Rattle.reference.proofs.Finding.{guess_right}
use Rattle.reference.proofs.find.Goals as goal

pub returns-then-holds : goal.returns-then-holds
returns-then-holds c =
    guess_right _ _ c.args.page c.requires _ c.guess-at.ensures.1 (sym (c.holds.ensures ∙ ap (holds_page c.args.page) c.frame_at-fr.ensures) ∙ c.if-holds.true)

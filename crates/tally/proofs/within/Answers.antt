use Prim.Native.Nat.{◌≤◌, ◌<◌}
use mathlib.Core.Path.{ap, ◌∙◌}
use borrow.Author.Rules.{rules}
use borrow.Author.Tests.{tests}
use Rattle.std.proofs.lemmas.Iterator.{cases_from_all, YieldsList-from_slice}
use Rattle.tally.specs.Tally.{tally_limit, none_above, tally_within}
use Rattle.tally.proofs.Laws.{none_above_is}
use Rattle.tally.proofs.within.Goals as goal

pub returns : goal.returns
unfolding tally_within
returns c =
    none_above_is tally_limit c.numbers.result c.all.result
    (cases_from_all _ _ _ (λ n. n ≤ tally_limit) (λ n. tally_limit < n) c.all.ensures.ran (YieldsList-from_slice c.numbers.result cc)
    (λ x q k. search (rules, tests)) (λ x q k. search (rules, tests)))
    ∙ ap (none_above tally_limit) c.numbers.ensures

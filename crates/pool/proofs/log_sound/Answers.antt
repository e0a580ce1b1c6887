use mathlib.Core.Path.{◌∙◌}
use native.Mathlib.Omega.{arith}
use lib.ListN.{length}
use Rattle.std.proofs.lemmas.Iterator.{YieldsList-from_range}
use Rattle.std.proofs.lemmas.Iterator.Search.{all_from_yields_List}
use borrow.Author.Rules.{rules}
use borrow.Author.Tests.{tests}
use borrow.Author.Tests.{le-leb}
use Rattle.pool.proofs.Listed.{all_numbers}
use Rattle.pool.proofs.Laws.{place_in, log_long, log_short}
use Rattle.pool.proofs.log_sound.Goals as goal

pub returns-then-n-log : goal.returns-then-n-log
returns-then-n-log c =
    let a = c.args.log.now in
    let test = place_in a c.args.n c.args.epoch in
    log_short _ _ _ _ (le-leb _ _ c.if-n-log.true)
    (all_from_yields_List test _ _ _ c.all.ensures.ran (YieldsList-from_range 0 (length a) (length a) (cc) (omega arith)) (λ x b q k. search (rules, tests))
    ∙ all_numbers test (length a))

pub returns-else-n-log : goal.returns-else-n-log
returns-else-n-log c = log_long _ _ _ _ _ (search (rules, tests))

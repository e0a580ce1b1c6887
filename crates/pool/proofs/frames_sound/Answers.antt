use mathlib.Core.Path.{◌∙◌}
use Rattle.std.proofs.lemmas.Iterator.{YieldsList-from_range}
use Rattle.std.proofs.lemmas.Iterator.Search.{all_from_yields_List}
use native.Mathlib.Omega.{arith}
use borrow.Author.Rules.{rules}
use borrow.Author.Tests.{tests}
use Rattle.pool.specs.ForCode.{frame_sound}
use Rattle.pool.proofs.Listed.{all_numbers}
use Rattle.pool.proofs.frames_sound.Goals as goal

pub returns : goal.returns
returns c =
    all_from_yields_List (frame_sound c.args.p.now) _ _ _ c.all.ensures.ran (YieldsList-from_range 0 128 128 (cc) (omega arith)) (λ x b q k. search (rules, tests))
    ∙ all_numbers (frame_sound c.args.p.now) 128

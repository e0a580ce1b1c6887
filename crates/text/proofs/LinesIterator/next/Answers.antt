use mathlib.Core.Path.{sym, ap, ◌∙◌}
use Prim.Native.Nat.{◌<◌, ◌+◌}
use native.Mathlib.Omega.{arith}
use lib.ListN.{length}
use borrow.Author.Rules.{rules}
use borrow.Author.Tests.{eqb-true, eqb-false}
use Rattle.text.specs.Text.{lines_of}
use Rattle.text.proofs.Cutting.{behind, line_then, line_last, lines_none}
use Rattle.text.proofs.LinesIterator.next.Goals as goal

pub returns-in-Some-clause-steps : goal.returns-in-Some-clause-steps
returns-in-Some-clause-steps c = line_then c.args.self.now.text.now c.in-Some.end (sym c.in-Some.is ∙ c.first_feed.ensures)

pub returns-in-Some-clause-goes : goal.returns-in-Some-clause-goes
returns-in-Some-clause-goes c =
    let s = c.args.self.now.text.now in
    let e = line_then s c.in-Some.end (sym c.in-Some.is ∙ c.first_feed.ensures) in
    let fewer : length (lines_of (behind (c.in-Some.end + 1) s)) < length (lines_of s) = omega (arith, ap length e) in
    search rules

pub returns-in-None-clause-steps : goal.returns-in-None-clause-steps
returns-in-None-clause-steps c =
    let e = lines_none c.args.self.now.text.now (eqb-true _ _ (sym c.is_empty.ensures ∙ c.if-is_empty.true)) in (e, e)

pub returns-in-None-2-clause-steps : goal.returns-in-None-2-clause-steps
returns-in-None-2-clause-steps c = line_last c.args.self.now.text.now (eqb-false _ _ (sym c.is_empty.ensures ∙ c.if-is_empty.false)) (sym c.in-None.is ∙ c.first_feed.ensures)

pub returns-in-None-2-clause-goes : goal.returns-in-None-2-clause-goes
returns-in-None-2-clause-goes c =
    let s = c.args.self.now.text.now in
    let e = line_last s (eqb-false _ _ (sym c.is_empty.ensures ∙ c.if-is_empty.false)) (sym c.in-None.is ∙ c.first_feed.ensures) in
    let fewer : length (lines_of (behind (length s) s)) < length (lines_of s) = omega (arith, ap length e) in
    search rules

use mathlib.Core.Path.{sym, ◌∙◌}
use Rattle.text.specs.Text.{line_of}
use Rattle.text.proofs.Laws.{begun, not_begun}
use Rattle.text.proofs.line_of.Goals as goal

pub returns-then-is_passed : goal.returns-then-is_passed
unfolding line_of
returns-then-is_passed c = rw (sym c.is_passed.ensures ∙ c.if-is_passed.true)

pub returns-in-Some : goal.returns-in-Some
unfolding line_of
returns-in-Some c =
    let f = c.in-Some.ensures.cases in
    rw (sym c.is_passed.ensures ∙ c.if-is_passed.false) (c.record_of.ensures ∙ sym (begun 0 c.args.line.now _ _ f.0 f.1))

pub returns-in-Some-strip_prefix : goal.returns-in-Some-strip_prefix
unfolding line_of
returns-in-Some-strip_prefix c =
    let line = c.args.line.now in
    let f = c.in-Some-strip_prefix.ensures.cases in
    rw (sym c.is_passed.ensures ∙ c.if-is_passed.false, not_begun 0 line _ c.in_default.ensures.cases) (c.record_of-in-Some-strip_prefix.ensures ∙ sym (begun 1 line _ _ f.0 f.1))

pub returns-in-Some-strip_prefix-2 : goal.returns-in-Some-strip_prefix-2
unfolding line_of
returns-in-Some-strip_prefix-2 c =
    let line = c.args.line.now in
    let f = c.in-Some-strip_prefix-2.ensures.cases in
    rw (sym c.is_passed.ensures ∙ c.if-is_passed.false, not_begun 0 line _ c.in_default.ensures.cases, not_begun 1 line _ c.in_default-strip_prefix.ensures.cases)
    (c.record_of-in-Some-strip_prefix-2.ensures ∙ sym (begun 2 line _ _ f.0 f.1))

pub returns-in-Some-strip_prefix-3 : goal.returns-in-Some-strip_prefix-3
unfolding line_of
returns-in-Some-strip_prefix-3 c =
    let line = c.args.line.now in
    let f = c.in-Some-strip_prefix-3.ensures.cases in
    rw (sym c.is_passed.ensures ∙ c.if-is_passed.false, not_begun 0 line _ c.in_default.ensures.cases, not_begun 1 line _ c.in_default-strip_prefix.ensures.cases, not_begun 2 line _ c.in_default-strip_prefix-2.ensures.cases)
    (c.record_of-in-Some-strip_prefix-3.ensures ∙ sym (begun 3 line _ _ f.0 f.1))

pub returns : goal.returns
unfolding line_of
returns c =
    let line = c.args.line.now in
    rw (
      sym c.is_passed.ensures ∙ c.if-is_passed.false,
      not_begun 0 line _ c.in_default.ensures.cases,
      not_begun 1 line _ c.in_default-strip_prefix.ensures.cases,
      not_begun 2 line _ c.in_default-strip_prefix-2.ensures.cases,
      not_begun 3 line _ c.in_default-strip_prefix-3.ensures.cases,
    )

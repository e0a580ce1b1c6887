use mathlib.Core.Path.{◌≡◌, refl, sym, ap, ◌∙◌}
use mathlib.Core.List.{List, ◌∷◌}
use native.Mathlib.Omega.{arith}
use lib.ListN.{length}
use Rattle.text.specs.declared.Line.{Line}
use Rattle.text.specs.Text.{lines_in, line_numbered, page_of, pages_in}
use Rattle.text.specs.ForCode.{number_in}
use Rattle.text.proofs.Laws.{number_kept, bad_more, bad_all, numbers_more, numbers_none}
use Rattle.text.proofs.Cutting.{lines_fit, read_more, read_all}
use Rattle.text.proofs.survey_of.Goals as goal

pub loop-bytes-init : goal.loop-bytes-init
loop-bytes-init c =
    rw c.into_iter-bytes-iterator.ensures.into_iter_gives (record { read = omega arith; few = omega arith; numbered = refl; found = refl; counted = omega arith })

pub overflow_add-lines : goal.overflow_add-lines
overflow_add-lines c = let fit = lines_fit c.args.text.now in let read = c.loop-bytes.invariant.read in omega arith

pub first_of-bad-requires : goal.first_of-bad-requires
first_of-bad-requires c = (c.loop-bytes.invariant.numbered, omega arith)

pub overflow_add-records : goal.overflow_add-records
overflow_add-records c =
    let fit = lines_fit c.args.text.now in let read = c.loop-bytes.invariant.read in let few = c.loop-bytes.invariant.few in let one = c.records_of-records.ensures.1 in omega arith

pub loop-bytes-preserved : goal.loop-bytes-preserved
loop-bytes-preserved c =
    let all = lines_in c.args.text.now in
    let rest = lines_in c.next.new.self.text.now in
    let line = c.line_of-line.result in
    let before = c.loop-bytes.invariant in
    let e = read_more _ _ _ line c.in-Some.ensures.steps c.line_of-line.ensures in
    let one : length (lines_in c.loop-bytes.bytes-iterator.text.now) ≡ length (line ∷ rest) = ap (λ (ls : List Line). length ls) e in
    let pages : length (pages_in (lines_in c.loop-bytes.bytes-iterator.text.now)) ≡ length (pages_in (line ∷ rest)) = ap (λ (ls : List Line). length (pages_in ls)) e in
    let more = numbers_more page_of line rest in
    let now = ap number_in c.first_of-bad.ensures ∙ number_kept _ in
    let records = c.records_of-records.ensures in
    let read = before.read in
    let few = before.few in
    let counted = before.counted in record {
      read = omega arith;
      few = omega arith;
      numbered = c.first_of-bad.ensures ∙ ap line_numbered (sym now);
      found = bad_more all rest line (number_in c.loop-bytes.bad) c.loop-bytes.lines (number_in c.first_of-bad.result) (rw e at before.found) (now ∙ rw c.is_bad.ensures);
      counted = omega arith;
    }

pub returns : goal.returns
returns c =
    let after = c.loop-bytes.invariant in
    let e = read_all c.loop-bytes.bytes-iterator.text.now c.in-None.ensures.steps.0 in
    let none = numbers_none page_of (lines_in c.loop-bytes.bytes-iterator.text.now) e in
    let counted = after.counted in
    (after.numbered ∙ ap line_numbered (bad_all (lines_in c.args.text.now) (lines_in c.loop-bytes.bytes-iterator.text.now) (number_in c.loop-bytes.bad) c.loop-bytes.lines e after.found), omega arith)

use Rattle.text.specs.Text.{lines_in, page_of, kind_of}
use Rattle.text.proofs.Filling.{Filled}
use Rattle.text.proofs.fill.Given as goal

abbrev pub invariant-loop-line : goal.invariant-loop-line
invariant-loop-line l = record {
  pages : Filled page_of (lines_in l.text) (lines_in l.line-iterator.text.now) l.initial.pages l.pages l.n;
  kinds : Filled kind_of (lines_in l.text) (lines_in l.line-iterator.text.now) l.initial.kinds l.kinds l.n;
}

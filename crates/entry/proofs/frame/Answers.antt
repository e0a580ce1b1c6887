use borrow.Author.Rules.{rules}
use Rattle.entry.specs.Entry.{frame_in}
use Rattle.entry.proofs.Laws.{fitting}
use Rattle.entry.proofs.frame.Goals as goal

pub overflow_cast-result : goal.overflow_cast-result
overflow_cast-result c = let e = c.get-3.ensures in let h = (fitting c.args.order c.args.bytes.now c.args.at c.requires.1).pins in search rules

pub overflow_cast-result-2 : goal.overflow_cast-result-2
overflow_cast-result-2 c = let e = c.get-4.ensures in let h = (fitting c.args.order c.args.bytes.now c.args.at c.requires.1).count in search rules

pub overflow_cast-result-3 : goal.overflow_cast-result-3
overflow_cast-result-3 c = let e = c.get-6.ensures in let h = (fitting c.args.order c.args.bytes.now c.args.at c.requires.1).accesses in search rules

pub overflow_cast-result-4 : goal.overflow_cast-result-4
overflow_cast-result-4 c = let e = c.get-7.ensures in let h = (fitting c.args.order c.args.bytes.now c.args.at c.requires.1).writes in search rules

pub returns : goal.returns
unfolding frame_in
returns c =
    rw (
      c.get-7.ensures,
      c.get-6.ensures,
      c.get-5.ensures,
      c.get-4.ensures,
      c.get-3.ensures,
      c.get-2.ensures,
      c.get.ensures,
    )

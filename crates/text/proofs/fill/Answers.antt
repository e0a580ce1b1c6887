use mathlib.Core.Path.{ap, ◌∙◌}
use mathlib.Core.List.{[]}
use Prim.Native.Nat.{ℕ, ◌+◌}
use Rattle.text.specs.Text.{lines_in, page_of, kind_of}
use Rattle.text.proofs.Cutting.{read_more, read_all}
use Rattle.text.proofs.Filling.{filled_none, filled_more, filled_room, filled_all, as_many}
use Rattle.text.proofs.fill.Goals as goal

pub loop-line-init : goal.loop-line-init
loop-line-init c =
    let all = lines_in c.args.text.now in
    rw c.into_iter-line-iterator.ensures.into_iter_gives (record { pages = filled_none page_of all [] c.args.pages.now; kinds = filled_none kind_of all [] c.args.kinds.now })

pub store_line-n-requires : goal.store_line-n-requires
store_line-n-requires c =
    let all = lines_in c.args.text.now in
    let lines = lines_in c.loop-line.line-iterator.text.now in
    let rest = lines_in c.next.new.self.text.now in
    let line = c.line_of.result in
    let e = read_more _ _ _ line c.in-Some.ensures.steps c.line_of.ensures in (
      filled_room page_of all rest c.args.pages.now lines line c.loop-line.pages c.loop-line.n e c.loop-line.invariant.pages c.requires.0,
      filled_room kind_of all rest c.args.kinds.now lines line c.loop-line.kinds c.loop-line.n e c.loop-line.invariant.kinds c.requires.1,
    )

pub loop-line-preserved : goal.loop-line-preserved
loop-line-preserved c =
    let all = lines_in c.args.text.now in
    let lines = lines_in c.loop-line.line-iterator.text.now in
    let rest = lines_in c.next.new.self.text.now in
    let line = c.line_of.result in
    let e = read_more _ _ _ line c.in-Some.ensures.steps c.line_of.ensures in
    let n = c.store_line-n.ensures.value in record {
      pages = filled_more page_of all rest c.args.pages.now lines line c.loop-line.pages _ c.loop-line.n c.store_line-n.result e c.loop-line.invariant.pages c.store_line-n.ensures.pages_after n;
      kinds = filled_more kind_of all rest c.args.kinds.now lines line c.loop-line.kinds _ c.loop-line.n c.store_line-n.result e c.loop-line.invariant.kinds c.store_line-n.ensures.kinds_after (n ∙ ap (λ (k : ℕ). c.loop-line.n + k) (as_many line));
    }

pub returns-clause-pages_after : goal.returns-clause-pages_after
returns-clause-pages_after c =
    let e = read_all c.loop-line.line-iterator.text.now c.in-None.ensures.steps.0 in
    filled_all page_of (lines_in c.args.text.now) c.args.pages.now c.loop-line.pages c.loop-line.n (rw e at c.loop-line.invariant.pages)

pub returns-clause-kinds_after : goal.returns-clause-kinds_after
returns-clause-kinds_after c =
    let e = read_all c.loop-line.line-iterator.text.now c.in-None.ensures.steps.0 in
    filled_all kind_of (lines_in c.args.text.now) c.args.kinds.now c.loop-line.kinds c.loop-line.n (rw e at c.loop-line.invariant.kinds)

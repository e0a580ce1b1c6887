use Rattle.fresh.proofs.Laws.{empty_opened, fresh_ready, fresh_counts_are, none_counted}
use Rattle.fresh.proofs.counts.Goals as goal

pub returns-then-trace-eq0 : goal.returns-then-trace-eq0
returns-then-trace-eq0 c =
    none_counted _ _ _ c.args.trace.now.accepted c.if-trace-eq0.true c.zero.ensures

pub count-requires : goal.count-requires
count-requires c =
    (fresh_ready _ _ _ _ c.args.trace.now.accepted (empty_opened _ _ _ c.args.trace.now.accepted c.empty-pool.ensures) c.zero-tally.ensures).begins

pub returns : goal.returns
returns c =
    fresh_counts_are _ _ _ _ c.args.trace.now.accepted (empty_opened _ _ _ c.args.trace.now.accepted c.empty-pool.ensures) c.zero-tally.ensures _ c.count.ensures

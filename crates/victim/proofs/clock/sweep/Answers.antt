use Rattle.std.proofs.Common.{sym, refl, ap, ◌∙◌}
use Rattle.pool.proofs.Sound.{told}
use Rattle.table.specs.Table.{pool_on}
use Rattle.victim.specs.Choice.{left_by}
use Rattle.victim.proofs.clock.Sweeping.{start, turn, less, end}
use Rattle.victim.proofs.clock.sweep.Goals as goal

pub loop-table-init : goal.loop-table-init
loop-table-init c = let pre = c.requires in (start _ (told _ pre.0) pre.1, refl)

pub loop-table-smaller : goal.loop-table-smaller
loop-table-smaller c =
    less _ _ _ c.loop-table.invariant.0 _ _ _ _ c.frame_at-fr.ensures (sym c.resting.ensures ∙ c.if-resting.false) c.passing.ensures
    c.put_count.ensures c.next_hand-at.ensures

pub loop-table-preserved : goal.loop-table-preserved
loop-table-preserved c =
    let v = c.loop-table.invariant in (
      turn _ _ _ v.0 _ _ _ _ c.frame_at-fr.ensures (sym c.resting.ensures ∙ c.if-resting.false) c.passing.ensures
          c.put_count.ensures c.next_hand-at.ensures,
      v.1,
    )

pub returns : goal.returns
returns c =
    let p = pool_on c.args.bench.now in
    let e = end p _ _ c.loop-table.invariant.0 _ _ c.frame_at-fr.ensures (sym c.resting.ensures ∙ c.if-resting.true) c.next_hand-past.ensures in
    record { choice = e; left = ap (left_by p) e }

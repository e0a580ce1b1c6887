use Rattle.std.proofs.Common.{sym, refl, ◌∙◌, eq-eqb, ne_eqb}
use Rattle.settings.proofs.Laws.{ranges}
use Rattle.pool.proofs.Sound.{told}
use Rattle.table.specs.Table.{pool_on}
use Rattle.victim.proofs.watt.Values.{fitting, value_found, value_ordered}
use Rattle.victim.proofs.watt.Turns.{drawing_starts, draw_skip, draw_ahead, draw_behind}
use Rattle.victim.proofs.watt.drawn.Goals as goal
use Rattle.victim.proofs.watt.drawn.Goals.{then-fr-eq0+then-ahead_of, then-fr-eq0+else-ahead_of, else-fr-eq0}

pub loop-n-init : goal.loop-n-init
loop-n-init c = drawing_starts _ _ _ _

pub named-at-requires : goal.named-at-requires
named-at-requires c = (ranges _ (told (pool_on c.args.bench.now) c.requires.sound).settings).frames

pub value_of-v-requires : goal.value_of-v-requires
value_of-v-requires c =
    let p = pool_on c.args.bench.now in
    rw c.frame_at-fr.ensures (fitting p _ _ (told p c.requires.sound) c.named-at.ensures.1 c.requires.now)

pub ahead_of-requires : goal.ahead_of-requires
ahead_of-requires c =
    let p = pool_on c.args.bench.now in
    ((value_found p _ _ (told p c.requires.sound) c.named-at.ensures.1 c.requires.now _ _ _ refl c.frame_at-fr.ensures c.value_of-v.ensures).1, c.loop-n.invariant.least.small)

pub loop-n-preserved : goal.loop-n-preserved
loop-n-preserved c =
    let e = c.frame_at-fr.ensures in
    let at = c.named-at.ensures in
    let next = c.next_sampler-s.ensures in
    let v = c.loop-n.invariant in
    let p = pool_on c.args.bench.now in
    let t = told p c.requires.sound in
    let some = (ranges _ t.settings).frames.0 in
    let ord = value_ordered p in
    elim c.if-fr-eq0.branch [
      | then-fr-eq0+then-ahead_of w ↦ let q = value_found p _ _ t at.1 c.requires.now _ _ _ refl e w.value_of-v.ensures in
          rw (w.best-is, w.low-is) (draw_ahead _ _ _ _ ord some _ _ _ _ _ _ v next at.0 _ (rw e at (eq-eqb _ _ w.if-fr-eq0.true)) q.0 q.1 (sym w.ahead_of.ensures ∙ w.if-ahead_of.true))
      | then-fr-eq0+else-ahead_of w ↦ let q = value_found p _ _ t at.1 c.requires.now _ _ _ refl e w.value_of-v.ensures in
          rw (w.best-is, w.low-is) (draw_behind _ _ _ _ ord some _ _ _ _ _ _ v next at.0 _ (rw e at (eq-eqb _ _ w.if-fr-eq0.true)) q.0 (sym w.ahead_of.ensures ∙ w.if-ahead_of.false))
      | else-fr-eq0 w ↦ rw (w.best-is, w.low-is) (draw_skip _ _ _ _ ord some _ _ _ _ _ _ v next at.0 (rw e at (ne_eqb _ _ w.if-fr-eq0.false)))
    ]

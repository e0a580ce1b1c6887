use mathlib.Core.Path.{refl, sym, ◌∙◌}
use Rattle.victim.proofs.watt.Turns.{best_none, best_skip, best_beat, best_keep}
use Rattle.batch.proofs.next.Goals as goal
use Rattle.batch.proofs.next.Goals.{then-waiting-i+then-beats, then-waiting-i+else-beats, else-waiting-i}

pub loop-i-init : goal.loop-i-init
loop-i-init c = best_none _ _

pub loop-i-preserved : goal.loop-i-preserved
loop-i-preserved c =
    let b = c.loop-i.invariant in
    let s = c.requires.1 _ c.loop-i-test.true in
    elim c.if-waiting-i.branch [
      | then-waiting-i+then-beats w ↦ rw (w.best-is, w.low-is) (best_beat _ _ _ _ _ _ b w.if-waiting-i.true refl s (sym w.beats.ensures ∙ w.if-beats.true))
      | then-waiting-i+else-beats w ↦ rw (w.best-is, w.low-is) (best_keep _ _ _ _ _ _ b refl (sym w.beats.ensures ∙ w.if-beats.false))
      | else-waiting-i w ↦ rw (w.best-is, w.low-is) (best_skip _ _ _ _ _ b w.if-waiting-i.false)
    ]

use Rattle.std.proofs.Common.{◌≡◌, ◌<◌, ◌≤◌, sym, refl, ◌∙◌, arith, eq-eqb, ne_eqb}
use Rattle.settings.proofs.Laws.{ranges}
use Rattle.pool.proofs.Sound.{told}
use Rattle.table.specs.Table.{pool_on}
use Rattle.victim.proofs.watt.Values.{fitting, value_found}
use Rattle.victim.proofs.watt.Turns.{best_none, best_skip, best_beat, best_keep}
use Rattle.victim.proofs.watt.least.Goals as goal
use Rattle.victim.proofs.watt.least.Goals.{then-fr-eq0+then-beats, then-fr-eq0+else-beats, else-fr-eq0}

pub loop-i-init : goal.loop-i-init
loop-i-init c = best_none _ _

pub frame_at-fr-requires : goal.frame_at-fr-requires
frame_at-fr-requires c =
    let few : c.args.bench.now.head.settings.frames ≤ 128 = (ranges _ (told (pool_on c.args.bench.now) c.requires.sound).settings).frames.1 in
    omega arith

pub value_of-v-requires : goal.value_of-v-requires
value_of-v-requires c =
    let t = told (pool_on c.args.bench.now) c.requires.sound in
    let few : c.args.bench.now.head.settings.frames ≤ 128 = (ranges _ t.settings).frames.1 in
    let l : c.loop-i.i < 128 = omega arith in
    rw c.frame_at-fr.ensures (fitting (pool_on c.args.bench.now) _ _ t l c.requires.now)

pub beats-requires : goal.beats-requires
beats-requires c =
    let t = told (pool_on c.args.bench.now) c.requires.sound in
    let few : c.args.bench.now.head.settings.frames ≤ 128 = (ranges _ t.settings).frames.1 in
    let l : c.loop-i.i < 128 = omega arith in
    ((value_found (pool_on c.args.bench.now) _ _ t l c.requires.now _ _ _ refl c.frame_at-fr.ensures c.value_of-v.ensures).1, c.loop-i.invariant.small)

pub loop-i-preserved : goal.loop-i-preserved
loop-i-preserved c =
    let e = c.frame_at-fr.ensures in
    let v = c.loop-i.invariant in
    let p = pool_on c.args.bench.now in
    let t = told p c.requires.sound in
    let few : c.args.bench.now.head.settings.frames ≤ 128 = (ranges _ t.settings).frames.1 in
    let l : c.loop-i.i < 128 = omega arith in
    elim c.if-fr-eq0.branch [
      | then-fr-eq0+then-beats w ↦ let q = value_found p _ _ t l c.requires.now _ _ _ refl e w.value_of-v.ensures in
          rw (w.best-is, w.low-is) (best_beat _ _ _ _ _ _ v (rw e at (eq-eqb _ _ w.if-fr-eq0.true)) q.0 q.1 (sym w.beats.ensures ∙ w.if-beats.true))
      | then-fr-eq0+else-beats w ↦ let q = value_found p _ _ t l c.requires.now _ _ _ refl e w.value_of-v.ensures in
          rw (w.best-is, w.low-is) (best_keep _ _ _ _ _ _ v q.0 (sym w.beats.ensures ∙ w.if-beats.false))
      | else-fr-eq0 w ↦ rw (w.best-is, w.low-is) (best_skip _ _ _ _ _ v (rw e at (ne_eqb _ _ w.if-fr-eq0.false)))
    ]

pub returns : goal.returns
returns c = let e : c.loop-i.i ≡ c.args.bench.now.head.settings.frames = omega arith in rw e at c.loop-i.invariant.found

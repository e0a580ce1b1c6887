use Rattle.std.proofs.Common.{◌≡◌, eqb, ap, ◌∙◌, arith}
use Rattle.pool.specs.Pool.{frame_at}
use Rattle.pool.specs.declared.Frame.{Frame}
use Rattle.table.specs.Table.{frames_in}
use Rattle.victim.specs.Choice.{unpinned}
use Rattle.search.specs.ForCode.{keyed}
use Rattle.victim.specs.Lru.{lru_victim}
use Rattle.search.proofs.ByKey.{key_none, key_more, key_found, key_nothing}
use Rattle.victim.proofs.lru.victim.Goals as goal

pub loop-i-init : goal.loop-i-init
loop-i-init c = (omega arith, key_none _ (λ j. (frame_at (frames_in c.args.table.now) j).last))

pub loop-i-preserved : goal.loop-i-preserved
loop-i-preserved c =
    let fs = frames_in c.args.table.now in
    let key : c.key-key.result ≡ keyed (unpinned fs c.loop-i.i) (frame_at fs c.loop-i.i).last c.loop-i.i = c.key-key.ensures ∙ ap (λ (fr : Frame). keyed (eqb fr.pins 0) fr.last c.loop-i.i) c.frame_at-fr.ensures in
    let e = c.lesser-low.ensures in
    let m = c.loop-i.invariant.0 in
    (omega arith, e ∙ key_more (unpinned fs) (λ j. (frame_at fs j).last) c.loop-i.i c.loop-i.low c.key-key.result (omega arith) (λ _. c.requires.1 _ c.loop-i-test.true) m key c.loop-i.invariant.1)

pub returns-then-low : goal.returns-then-low
unfolding lru_victim
returns-then-low c =
    let fs = frames_in c.args.table.now in
    let e : c.loop-i.i ≡ c.args.f = omega arith in
    key_nothing (unpinned fs) (λ j. (frame_at fs j).last) c.args.f _ c.requires.0 (rw e at c.loop-i.invariant.1) (λ j d _. c.requires.1 j d) c.if-low.true

pub returns : goal.returns
unfolding lru_victim
returns c =
    let fs = frames_in c.args.table.now in
    let e : c.loop-i.i ≡ c.args.f = omega arith in
    key_found (unpinned fs) (λ j. (frame_at fs j).last) c.args.f _ c.requires.0 (rw e at c.loop-i.invariant.1) c.if-low.false

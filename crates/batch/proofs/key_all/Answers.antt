use Rattle.std.proofs.Common.{◌∙◌, arith}
use Rattle.std.proofs.Math.ListN.{length-set}
use Rattle.settings.proofs.Laws.{ranges}
use Rattle.pool.proofs.Sound.{told}
use Rattle.table.specs.Table.{pool_on}
use Rattle.victim.proofs.lru.Laws.{lasts_below}
use Rattle.batch.proofs.Numbers.{keyed_more}
use Rattle.batch.proofs.key_all.Goals as goal

pub loop-i-init : goal.loop-i-init
loop-i-init c = (c.requires.1, record { key = λ i l. absurd (omega arith) })

pub frame_at-fr-requires : goal.frame_at-fr-requires
frame_at-fr-requires c =
    let few = (ranges _ (told (pool_on c.args.bench.now) c.requires.0).settings).frames.1 in
    omega (arith, few)

pub bounds-keys-i : goal.bounds-keys-i
bounds-keys-i c =
    let few = (ranges _ (told (pool_on c.args.bench.now) c.requires.0).settings).frames.1 in
    omega (arith, few, c.loop-i.invariant.0)

pub number-rank-requires : goal.number-rank-requires
number-rank-requires c =
    let s = told (pool_on c.args.bench.now) c.requires.0 in
    (c.loop-i-test.true, (ranges _ s.settings).frames.1, s.hand, rw c.frame_at-fr.ensures ((lasts_below _ s).1 _ c.loop-i-test.true))

pub key-requires : goal.key-requires
key-requires c =
    let few = (ranges _ (told (pool_on c.args.bench.now) c.requires.0).settings).frames.1 in
    (omega (arith, few), c.number-rank.ensures.1)

pub loop-i-preserved : goal.loop-i-preserved
loop-i-preserved c =
    let r = c.loop-i in
    let v = r.invariant in
    let few = (ranges _ (told (pool_on c.args.bench.now) c.requires.0).settings).frames.1 in (
      length-set r.keys _ _ ∙ v.0,
      keyed_more (pool_on c.args.bench.now) c.args.v r.i r.keys c.frame_at-fr.result c.to_write.result c.number-rank.result c.key.result v.0 (omega (arith, few)) v.1 c.frame_at-fr.ensures c.to_write.ensures c.number-rank.ensures.0 c.key.ensures,
    )

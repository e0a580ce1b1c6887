use Rattle.std.proofs.Common.{refl, ◌∙◌, arith}
use Rattle.std.proofs.Math.ListN.{length-set}
use Rattle.settings.proofs.Laws.{ranges}
use Rattle.pool.proofs.Sound.{told}
use Rattle.table.specs.Table.{pool_on}
use Rattle.victim.proofs.watt.Values.{fitting, now_is}
use Rattle.batch.proofs.Values.{valued_none, valued_more}
use Rattle.batch.proofs.value_all.Goals as goal

pub now_of-epoch-requires : goal.now_of-epoch-requires
now_of-epoch-requires c = (ranges _ (told (pool_on c.args.bench.now) c.requires).settings).span.0

pub loop-i-init : goal.loop-i-init
loop-i-init c = (refl, refl, valued_none _ _ _ _)

pub frame_at-fr-requires : goal.frame_at-fr-requires
frame_at-fr-requires c =
    let few = (ranges _ (told (pool_on c.args.bench.now) c.requires).settings).frames.1 in
    omega (arith, few)

pub value_where-value-requires : goal.value_where-value-requires
value_where-value-requires c =
    let p = pool_on c.args.bench.now in
    let few = (ranges _ (told p c.requires).settings).frames.1 in
    rw c.frame_at-fr.ensures (fitting p _ _ (told p c.requires) (omega (arith, few)) (now_is p _ c.now_of-epoch.ensures))

pub bounds-waiting-i : goal.bounds-waiting-i
bounds-waiting-i c =
    let few = (ranges _ (told (pool_on c.args.bench.now) c.requires).settings).frames.1 in
    omega (arith, few, c.loop-i.invariant.0)

pub bounds-values-i : goal.bounds-values-i
bounds-values-i c =
    let few = (ranges _ (told (pool_on c.args.bench.now) c.requires).settings).frames.1 in
    omega (arith, few, c.loop-i.invariant.1)

pub loop-i-preserved : goal.loop-i-preserved
loop-i-preserved c =
    let p = pool_on c.args.bench.now in
    let few = (ranges _ (told p c.requires).settings).frames.1 in
    let r = c.loop-i in
    let v = r.invariant in (
      length-set r.waiting _ _ ∙ v.0,
      length-set r.values _ _ ∙ v.1,
      valued_more p _ _ _ _ _ v.0 v.1 (omega (arith, few)) v.2 (now_is p _ c.now_of-epoch.ensures) _ _ _ c.frame_at-fr.ensures c.to_write-waits.ensures c.value_where-value.ensures,
    )

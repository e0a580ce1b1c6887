use mathlib.Core.Path.{◌≡◌, ap, ◌∙◌}
use Rattle.settings.proofs.Laws.{ranges}
use Rattle.pool.specs.declared.Frame.{Frame}
use Rattle.pool.proofs.Sound.{told}
use Rattle.table.specs.Table.{pool_on}
use Rattle.reference.specs.Search.{lowest_unused}
use Rattle.reference.proofs.InUse.{unused_is, residents, used_lowest}
use Rattle.effect.specs.Record.{pins_at}
use Rattle.effect.proofs.Settled.{settled_of, found_framed, free_framed, settled_is}
use Rattle.effect.proofs.Works.{sized_on, room_asked, room_enterable, played}
use Rattle.effect.proofs.play.Goals as goal

pub in_use-n-requires : goal.in_use-n-requires
in_use-n-requires c =
    let p = pool_on c.args.bench.now in
    let s = told p c.requires.sound in
    let r = (ranges _ s.settings).frames in
    (r.0, r.1, used_lowest p s)

pub find-found-requires : goal.find-found-requires
find-found-requires c =
    let p = pool_on c.args.bench.now in
    residents p _ c.in_use-n.ensures (told p c.requires.sound)

pub place_of-requires : goal.place_of-requires
place_of-requires c = found_framed _ _ _ c.find-found.ensures

pub settle-settled-requires : goal.settle-settled-requires
settle-settled-requires c =
    let p = pool_on c.args.bench.now in
    let unused : c.lowest_unused-free.result ≡ lowest_unused p = unused_is p _ c.in_use-n.ensures _ c.lowest_unused-free.ensures in
    (found_framed _ _ _ c.find-found.ensures, free_framed p _ c.requires.sound unused)

pub room_where-row-requires : goal.room_where-row-requires
room_where-row-requires c =
    let p = pool_on c.args.bench.now in
    let z = sized_on c.args.bench.now c.requires.access c.requires.write in
    let unused : c.lowest_unused-free.result ≡ lowest_unused p = unused_is p _ c.in_use-n.ensures _ c.lowest_unused-free.ensures in
    let settled : c.settle-settled.result ≡ settled_of p c.args.page c.args.kind =
    settled_is p c.args.page c.args.kind _ _ _ _ _ c.asked_by-asks.ensures c.find-found.ensures unused
    (ap (λ (fr : Frame). fr.pins) c.frame_at-old.ensures ∙ ap (pins_at p) c.place_of.ensures.0) c.settle-settled.ensures.0 in
    room_asked p c.requires.sound z _ _ _ _ settled _ c.settle-settled.ensures.1 c.requires

pub enter-requires : goal.enter-requires
enter-requires c =
    let p = pool_on c.args.bench.now in
    let z = sized_on c.args.bench.now c.requires.access c.requires.write in
    let unused : c.lowest_unused-free.result ≡ lowest_unused p = unused_is p _ c.in_use-n.ensures _ c.lowest_unused-free.ensures in
    let settled : c.settle-settled.result ≡ settled_of p c.args.page c.args.kind =
    settled_is p c.args.page c.args.kind _ _ _ _ _ c.asked_by-asks.ensures c.find-found.ensures unused
    (ap (λ (fr : Frame). fr.pins) c.frame_at-old.ensures ∙ ap (pins_at p) c.place_of.ensures.0) c.settle-settled.ensures.0 in
    room_enterable p c.requires.sound z c.args.page c.args.kind _ _ settled _ _ _ _ c.room_where-row.ensures

pub returns : goal.returns
returns c =
    let p = pool_on c.args.bench.now in
    let z = sized_on c.args.bench.now c.requires.access c.requires.write in
    let unused : c.lowest_unused-free.result ≡ lowest_unused p = unused_is p _ c.in_use-n.ensures _ c.lowest_unused-free.ensures in
    let settled : c.settle-settled.result ≡ settled_of p c.args.page c.args.kind =
    settled_is p c.args.page c.args.kind _ _ _ _ _ c.asked_by-asks.ensures c.find-found.ensures unused
    (ap (λ (fr : Frame). fr.pins) c.frame_at-old.ensures ∙ ap (pins_at p) c.place_of.ensures.0) c.settle-settled.ensures.0 in
    played p c.requires.sound z _ _ _ _ settled _ _ _ _ c.room_where-row.ensures _ _ c.asked_by-asks.ensures c.enter.ensures

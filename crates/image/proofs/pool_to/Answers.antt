use mathlib.Core.Path.{◌≡◌, refl, ◌∙◌}
use native.Mathlib.Omega.{arith}
use lib.ListN.{length-set}
use borrow.Author.Rules.{rules}
use Rattle.pool.specs.Pool.{fresh_pool}
use Rattle.entry.proofs.Run.{run_none}
use Rattle.image.specs.Layout.{pool_to}
use Rattle.image.proofs.Laws.{frames_more, access_more, write_more, entry_within, entry_fits_lem}
use Rattle.image.proofs.pool_to.Goals as goal

pub loop-i-init : goal.loop-i-init
loop-i-init c = (refl, search rules, search rules, rw (run_none _), rw (run_none _), rw (run_none _))

pub frame-requires : goal.frame-requires
frame-requires c =
    let s = c.args.bytes.now in
    let i = c.loop-i.i in
    (entry_within c.args.order s i c.args.used c.loop-i-test.true c.requires.1, entry_fits_lem c.args.order s i c.args.used c.requires.2 c.loop-i-test.true)

pub loop-i-preserved : goal.loop-i-preserved
loop-i-preserved c =
    let v = c.loop-i.invariant in
    let o = c.args.order in
    let s = c.args.bytes.now in
    let i = c.loop-i.i in (
      length-set c.loop-i.frames _ _ ∙ v.0,
      search rules,
      search rules,
      frames_more o s i _ c.loop-i.frames _ _ v.3 c.frame.ensures refl,
      access_more o s i _ c.loop-i.access _ v.4 c.read_log.ensures,
      write_more o s i _ c.loop-i.write _ v.5 c.read_log-in-loop-i.ensures,
    )

pub returns : goal.returns
unfolding pool_to fresh_pool
returns c =
    let v = c.loop-i.invariant in
    let e : c.loop-i.i ≡ c.args.used = omega arith in
    rw (c.get-3.ensures, c.get-2.ensures, c.get.ensures, c.read-settings.ensures, v.3, v.4, v.5, e, c.empty_frame-empty.ensures)

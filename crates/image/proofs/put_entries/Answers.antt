use mathlib.Core.Path.{refl, ◌∙◌}
use Prim.Native.Nat.{◌+◌}
use native.Mathlib.Omega.{arith}
use borrow.Author.Rules.{rules}
use Rattle.pool.proofs.Sizes.{Sized}
use Rattle.entry.specs.Entry.{word_bytes, field_bytes, access_of, write_of}
use Rattle.entry.proofs.Run.{run_none}
use Rattle.pool.specs.Pool.{frame_at}
use Rattle.image.specs.Layout.{image_length}
use Rattle.image.proofs.Laws.{stored_length, entries_more}
use Rattle.image.proofs.put_entries.Goals as goal

pub loop-i-init : goal.loop-i-init
loop-i-init c = (refl, rw (run_none _))

pub loop-i-preserved : goal.loop-i-preserved
loop-i-preserved c =
    let o = c.args.order in
    let p = c.args.p in
    let l = c.loop-i in
    let n = l.i in
    let out = l.invariant.0 in
    let i = c.loop-i-test.true in
    let few = c.requires.0 in
    let z : Sized p = record { frames = search rules; access = search rules; write = search rules } in
    let f = stored_length l.out c.put_fields.new.out (image_length n) (field_bytes o (frame_at p.frames n)) c.put_fields.ensures in
    let g = stored_length c.put_fields.new.out c.put_log.new.out (image_length n + 20) (word_bytes o (access_of p n)) c.put_log.ensures in
    let h = stored_length c.put_log.new.out c.put_log-in-loop-i.new.out (image_length n + 52) (word_bytes o (write_of p n)) c.put_log-in-loop-i.ensures in (
      h ∙ g ∙ f ∙ out,
      entries_more o p z n c.args.out.now l.out _ _ _ (omega (arith, i, few))
          l.invariant.1 c.put_fields.ensures c.put_log.ensures c.put_log-in-loop-i.ensures,
    )

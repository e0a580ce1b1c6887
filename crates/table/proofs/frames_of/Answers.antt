use mathlib.Core.Path.{sym, ◌∙◌}
use Prim.Native.Nat.{◌<◌}
use lib.Seq.{ext_get_or}
use native.Mathlib.Omega.{arith}
use borrow.Author.Rules.{rules}
use borrow.Author.Tests.{tests}
use Rattle.pool.specs.Pool.{frame_at, empty_frame}
use Rattle.table.specs.Table.{frames_in}
use Rattle.table.proofs.Held.{frames_long}
use Rattle.table.proofs.Filling.{made_at}
use Rattle.table.proofs.frames_of.Goals as goal

pub returns : goal.returns
returns c =
    let all = frames_in c.args.table.now in
    ext_get_or empty_frame c.from_fn.result all (c.from_fn.ensures.items.long ∙ sym (frames_long _ 128))
    (λ j l. let b : j < 128 = rw c.from_fn.ensures.items.long at l in made_at _ (frame_at all) _ (λ x y q k. search (rules, tests)) c.from_fn.result empty_frame 128 0 c.from_fn.ensures.items.each j (omega arith) (omega arith))

use mathlib.Core.Path.{sym}
use Prim.Native.Nat.{◌<◌}
use native.Mathlib.Omega.{arith}
use lib.ListN.{length, drop, length-drop}
use lib.Seq.{get_or-drop, length-take-le}
use Rattle.entry.proofs.Laws.{words_more}
use Rattle.entry.proofs.put_log.Goals as goal

pub loop-j-preserved : goal.loop-j-preserved
loop-j-preserved c =
    let log = c.args.log.now in
    let rest = drop c.args.start log in
    let j = c.loop-j.j in
    let long : j < length rest = simp length-drop (omega arith) in (
      omega arith,
      words_more c.args.order rest c.args.out.now c.loop-j.out c.put.new.out c.args.at j _ long
          (length-take-le j rest (omega arith)) c.loop-j.invariant.1 (sym (get_or-drop c.args.start log j 0)) c.put.ensures,
    )

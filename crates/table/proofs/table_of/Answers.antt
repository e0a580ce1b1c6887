use mathlib.Core.Path.{◌≡◌, refl, ◌∙◌, ap}
use mathlib.Core.List.{List}
use Prim.Native.Nat.{ℕ, ◌<◌}
use native.Mathlib.Omega.{arith}
use lib.ListN.{length}
use Rattle.table.specs.Table.{frames_in}
use Rattle.table.proofs.Held.{frames_long, filled_none, filled_more, filled_all}
use borrow.Author.Rules.{rules}
use Rattle.table.proofs.table_of.Goals as goal
use Rattle.table.proofs.table_of.Goals.{then-fr, else-fr}

pub loop-i-init : goal.loop-i-init
loop-i-init c = (refl, filled_none _ _)

pub loop-i-preserved : goal.loop-i-preserved
loop-i-preserved c =
    let all : length c.args.frames.now ≡ 128 = search rules in
    let room : c.loop-i.i < length (frames_in c.loop-i.table) = rw (frames_long c.loop-i.table 128) (omega arith) in
    let more = λ (t : List ℕ) (e : frames_in t ≡ frames_in c.put.new.table). filled_more c.args.frames.now (frames_in c.loop-i.table) (frames_in t) _ c.loop-i.i room c.loop-i.invariant.1 (e ∙ c.put.ensures) (refl) in
    elim c.if-fr.branch [
      | then-fr w ↦ (search rules, more c.if-fr.table (ap frames_in w.table-is ∙ w.note.ensures.1))
      | else-fr w ↦ (search rules, more c.if-fr.table (ap frames_in w.table-is))
    ]

pub returns : goal.returns
returns c =
    let z : length c.args.frames.now ≡ 128 = search rules in
    filled_all _ _ _ (frames_long _ 128) z (omega arith) c.loop-i.invariant.1

use mathlib.Core.Path.{◌≡◌, ◌∙◌}
use Prim.Native.Nat.{◌≤◌}
use native.Mathlib.Omega.{arith}
use lib.ListN.{length}
use Rattle.std.specs.List.{count_by}
use Rattle.std.proofs.lemmas.List.Sums.{count_by-le-length}
use Rattle.pool.specs.declared.Frame.{Frame}
use Rattle.pool.specs.Pool.{empty_frame}
use Rattle.pool.proofs.Listed.{count_places}
use Rattle.effect.specs.Record.{dirty_in}
use borrow.Author.Rules.{rules}
use Rattle.replay.proofs.dirty_frames.Goals as goal

pub returns : goal.returns
unfolding dirty_in
returns c =
    let frames = c.args.frames.now in
    let dirty = λ (fr : Frame). fr.dirty in
    let n : length frames ≡ 128 = search rules in
    let e : c.count.result ≡ count_by dirty frames = search rules in
    let few : count_by dirty frames ≤ length frames = count_by-le-length dirty frames in
    (e ∙ count_places dirty empty_frame frames ∙ rw n, omega arith)

use mathlib.Core.Path.{◌≡◌, ◌∙◌}
use native.Mathlib.Omega.{arith}
use lib.ListN.{length}
use Rattle.std.proofs.Common.{rules}
use Rattle.std.specs.Prelude.{count_by}
use Rattle.std.proofs.iter.runs.Made.{chains}
use Rattle.std.proofs.lemmas.List.Sums.{count_by-le-length}
use Rattle.pool.specs.declared.Frame.{Frame}
use Rattle.pool.specs.Pool.{empty_frame}
use Rattle.pool.proofs.Listed.{count_places}
use Rattle.image.specs.Layout.{used_in}
use Rattle.image.proofs.used_frames.Goals as goal

pub returns : goal.returns
unfolding used_in
returns c =
    let frames = c.args.p.frames in
    let counted : c.count.result ≡ count_by (λ (fr : Frame). fr.used) frames = search (rules, chains) in
    let all : length frames ≡ 128 = search rules in
    let few = count_by-le-length (λ (fr : Frame). fr.used) frames in
    (counted ∙ count_places (λ (fr : Frame). fr.used) empty_frame frames ∙ rw all, omega arith)

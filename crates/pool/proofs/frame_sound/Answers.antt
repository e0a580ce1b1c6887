use mathlib.Core.Path.{◌≡◌, refl, ap, ◌∙◌}
use Prim.Native.Nat.{ℕ, ◌+◌, ◌-◌, ◌*◌}
use lib.ListN.{length, take, drop}
use lib.Seq.{length-take-le}
use borrow.Author.Rules.{rules}
use native.Mathlib.Omega.{arith}
use Rattle.pool.proofs.ByFrame.{beside_is, frame_tested}
use Rattle.pool.proofs.Laws.{part_log, earlier_pairs}
use Rattle.pool.proofs.frame_sound.Goals as goal

pub returns : goal.returns
returns c =
    let p = c.args.p.now in
    let i = c.args.i in
    let frames : length p.frames ≡ 128 = search rules in
    let access : length p.access ≡ 1024 = search rules in
    let write : length p.write ≡ 512 = search rules in
    let eight : i * 8 + 8 - i * 8 ≡ 8 = omega arith in
    let four : i * 4 + 4 - i * 4 ≡ 4 = omega arith in
    frame_tested p i _ _ _ _ c.last_epoch-epoch.ensures
    (beside_is p i _ (c.beside_sound-beside.ensures ∙ rw (earlier_pairs p i _ refl (omega arith), length-take-le i p.frames (omega arith))))
    (c.log_sound-access.ensures ∙ part_log p.access _ (i * 8) 8 _ _ (ap (λ (k : ℕ). take k (drop (i * 8) p.access)) eight) (omega arith))
    (c.log_sound-write.ensures ∙ part_log p.write _ (i * 4) 4 _ _ (ap (λ (k : ℕ). take k (drop (i * 4) p.write)) four) (omega arith))

use mathlib.Core.Path.{◌≡◌, ap, sym, ◌∙◌}
use Prim.Native.Nat.{ℕ, ◌+◌, ◌-◌, ◌*◌}
use native.Mathlib.Omega.{arith}
use lib.ListN.{length, take, drop, replicate, length-replicate, length-drop}
use lib.Seq.{length-take-le}
use Rattle.std.proofs.lemmas.Slice.{put_mid-paste}
use Rattle.reference.proofs.Logs.{clear_all, clear_rest}
use Rattle.reference.proofs.clear.Goals as goal

pub returns : goal.returns
returns g c =
    let a = c.args.logs.now in
    let at = c.args.i * g.row.ROOM in
    let n = g.row.ROOM in
    let width : at + n - at ≡ n = omega arith in
    let long : length (take (at + n - at) (drop at a)) ≡ n = length-take-le (at + n - at) (drop at a) (rw (length-drop at a) (omega arith)) ∙ width in
    let zeros = c.fill.ensures.after (λ y e. e) ∙ ap (λ (k : ℕ). replicate k 0) long in
    let all = clear_all a at n _ (put_mid-paste at (at + n - at) a _ (replicate n 0) n zeros (sym width) (sym (length-replicate {A = ℕ} n 0))) in
    (all, clear_rest a at n c.requires _ all)

use native.Mathlib.Omega.{arith}
use mathlib.Core.Path.{◌≡◌}
use Prim.Native.Nat.{◌+◌, ◌-◌}
use lib.ListN.{length}
use mathlib.Core.List.{append_assoc}
use lib.Seq.{sets-eq}
use Rattle.std.proofs.lemmas.List.{drop-drop}
use Rattle.text.proofs.put_bytes.Goals as goal

pub returns-clause-out_after : goal.returns-clause-out_after
returns-clause-out_after c =
    let a = c.args in
    let long : a.at + length a.bytes.now - a.at ≡ length a.bytes.now = omega arith in
    rw (c.copy_from_slice.ensures.after, long, sets-eq a.bytes.now a.out.now a.at c.requires, drop-drop (length a.bytes.now) a.at a.out.now, append_assoc)

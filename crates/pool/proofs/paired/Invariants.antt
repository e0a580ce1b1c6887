use mathlib.Core.Path.{◌≡◌}
use Prim.Native.Nat.{ℕ}
use Rattle.search.specs.Search.{every_below}
use Rattle.pool.specs.Pool.{frame_at}
use Rattle.pool.specs.ForCode.{pair_sound}
use Rattle.pool.proofs.paired.Given as goal

abbrev pub invariant-loop-j : goal.invariant-loop-j
invariant-loop-j l = l.paired ≡ every_below (λ (i : ℕ). pair_sound (frame_at l.fn.earlier i) l.fn.fr) l.j

-- The lengths of a pool's arrays; of a pool that a function has, `search rules` finds each from its type.
use mathlib.Core.Path.{◌≡◌}
use Prim.Native.Nat.{ℕ, ◌+◌, ◌*◌, ◌≤◌, ◌<◌}
use native.Mathlib.Omega.{arith}
use lib.ListN.{length}
use Rattle.pool.specs.declared.Pool.{Pool}

pub record Sized (p : Pool) : Type 0 where
  pub frames : length p.frames ≡ 128
  pub access : length p.access ≡ 1024
  pub write : length p.write ≡ 512

-- the places of frame i's logs are there
pub access_room_lem : (p : Pool) (i : ℕ) → Sized p → i < 128 → i * 8 + 8 ≤ length p.access
access_room_lem p i z l = let k = z.access in omega arith

pub write_room_lem : (p : Pool) (i : ℕ) → Sized p → i < 128 → i * 4 + 4 ≤ length p.write
write_room_lem p i z l = let k = z.write in omega arith

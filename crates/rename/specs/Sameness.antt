-- Only sameness of page numbers counts: what is given, and what then holds.
use Rattle.std.specs.Prelude.{ℕ, ◌*◌, ◌<◌, ◌≡◌, true, List, [], ◌∷◌, ◌++◌, length, get_or}
use Rattle.search.specs.Search.{pick, among}
use Rattle.word.specs.declared.Order.{Order}
use Rattle.trace.specs.Layout.{Trace}
use Rattle.trace.specs.Check.Checked.{Accepted}
use Rattle.trace.specs.Check.{refusal_of, trace_of, check_of}
use Rattle.pool.specs.declared.Frame.{Frame}
use Rattle.pool.specs.declared.Pool.{Pool}
use Rattle.pool.specs.Pool.{frame_room, access_room, write_room, frame_at}
use Rattle.pool.specs.Sound.{sound_pool}
use Rattle.tally.specs.declared.Tally.{Tally}
use Rattle.replay.specs.Replay.{replay_of}
use Rattle.rename.specs.Renamed.{renamed_pool, renamed_trace, renamed_bytes, renamed_played}

-- the pages of the frames in use
unfoldable pub resident_pages : List Frame → List ℕ
resident_pages [] = []
resident_pages (fr ∷ fs) = pick fr.used (fr.page ∷ []) [] ++ resident_pages fs

-- the pages of trace and pool taken together
abbrev pub pages_together : Pool → Trace → List ℕ
pages_together p t = t.pages ++ resident_pages p.frames

-- "one_to_one": ρ never gives two different pages of the list one number; and it gives 4-byte numbers. Of other numbers nothing is asked
pub record Renames (ρ : ℕ → ℕ) (pages : List ℕ) : Type 0 where
  pub one_to_one : (a b : ℕ) → among pages a ≡ true → among pages b ≡ true → ρ a ≡ ρ b → a ≡ b
  pub four_bytes : (a : ℕ) → among pages a ≡ true → ρ a < 4294967296

-- what the types say of bytes: they are below 256
abbrev pub AreBytes : List ℕ → Type 0
AreBytes s = (i : ℕ) → get_or s i 0 < 256

-- what the types say of a pool and of bytes: the lengths of a pool's arrays, and that bytes are below 256
pub record Stored (p : Pool) (s : List ℕ) : Type 0 where
  pub bytes : AreBytes s
  pub frames : length p.frames ≡ frame_room
  pub access : length p.access ≡ frame_room * access_room
  pub write : length p.write ≡ frame_room * write_room

-- any sound pool, and any accepted trace; that it has the pool's settings need not be asked, since a replay looks at the pool's alone
pub record Given (p : Pool) (s : List ℕ) : Type 0 where
  pub stored : Stored p s
  pub sound : sound_pool p ≡ true
  pub accepted : refusal_of s ≡ 0

-- then the renamed pool is sound, and its pages are 4-byte numbers; the renamed trace, written in either order, is bytes and is accepted, with the same
-- settings, count and kinds; and its replay from the renamed pool, with any tally, is the renamed replay
pub record OnlySameness (ρ : ℕ → ℕ) (p : Pool) (t : Tally) (s : List ℕ) : Type 0 where
  pub sound : sound_pool (renamed_pool ρ p) ≡ true
  pub pages : (i : ℕ) → i < frame_room → (frame_at (renamed_pool ρ p).frames i).page < 4294967296
  pub stored : (o : Order) → Stored (renamed_pool ρ p) (renamed_bytes ρ o s)
  pub accepted : (o : Order) → check_of (renamed_bytes ρ o s) ≡ Accepted (record { settings = (trace_of s).settings; order = o; count = length (trace_of s).pages })
  pub read : (o : Order) → trace_of (renamed_bytes ρ o s) ≡ renamed_trace ρ o (trace_of s)
  pub replayed : (o : Order) → replay_of (renamed_pool ρ p) t (trace_of (renamed_bytes ρ o s)) ≡ renamed_played ρ (replay_of p t (trace_of s))

-- the demand, under every replacement rule, since the pool's settings name it
abbrev pub Demand : Type 0
Demand = (ρ : ℕ → ℕ) (p : Pool) (t : Tally) (s : List ℕ) → Given p s → Renames ρ (pages_together p (trace_of s)) → OnlySameness ρ p t s

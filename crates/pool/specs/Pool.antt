-- The pool: what it holds, a fresh one, and the epoch.
use Rattle.std.specs.Prelude.{ℕ, ◌/◌, Bool, false, List, get_or, set, replicate, Result, Ok, Err}
use Rattle.search.specs.Search.{pick}
use Rattle.refusal.specs.Refusals.{out_of_range}
use Rattle.refusal.specs.declared.Refusal.{Refusal}
use Rattle.refusal.specs.Numbers.{number_of}
use Rattle.settings.specs.declared.Settings.{Settings}
use Rattle.settings.specs.Settings.{in_range, one_frame}
use Rattle.pool.specs.declared.Frame.{Frame}
use Rattle.pool.specs.declared.Pool.{Pool}
use Rattle.pool.specs.declared.Unopened.{Unopened}

-- up to 128 frames
abbrev pub frame_room : ℕ
frame_room = 128

-- an access log of up to 8 epochs
abbrev pub access_room : ℕ
access_room = 8

-- and a write log of up to 4
abbrev pub write_room : ℕ
write_room = 4

-- a frame that is not in use: all zero
abbrev pub empty_frame : Frame
empty_frame = record { used = false; page = 0; dirty = false; pins = 0; count = 0; last = 0; accesses = 0; writes = 0 }

-- frame i; past the last, an empty one
abbrev pub frame_at : List Frame → ℕ → Frame
frame_at fs i = get_or fs i empty_frame

-- a frame that is in use or not
abbrev pub with_used : Frame → Bool → Frame
with_used fr used = record { used = used; page = fr.page; dirty = fr.dirty; pins = fr.pins; count = fr.count; last = fr.last; accesses = fr.accesses; writes = fr.writes }

-- a frame with another page
abbrev pub with_page : Frame → ℕ → Frame
with_page fr page = record { used = fr.used; page = page; dirty = fr.dirty; pins = fr.pins; count = fr.count; last = fr.last; accesses = fr.accesses; writes = fr.writes }

-- a frame that is dirty or clean
abbrev pub with_dirty : Frame → Bool → Frame
with_dirty fr dirty = record { used = fr.used; page = fr.page; dirty = dirty; pins = fr.pins; count = fr.count; last = fr.last; accesses = fr.accesses; writes = fr.writes }

-- with another pin count
abbrev pub with_pins : Frame → ℕ → Frame
with_pins fr pins = record { used = fr.used; page = fr.page; dirty = fr.dirty; pins = pins; count = fr.count; last = fr.last; accesses = fr.accesses; writes = fr.writes }

-- with another clock count
abbrev pub with_count : Frame → ℕ → Frame
with_count fr count = record { used = fr.used; page = fr.page; dirty = fr.dirty; pins = fr.pins; count = count; last = fr.last; accesses = fr.accesses; writes = fr.writes }

-- with another step of last reference
abbrev pub with_last : Frame → ℕ → Frame
with_last fr last = record { used = fr.used; page = fr.page; dirty = fr.dirty; pins = fr.pins; count = fr.count; last = last; accesses = fr.accesses; writes = fr.writes }

-- with an access log of another length
abbrev pub with_accesses : Frame → ℕ → Frame
with_accesses fr accesses = record { used = fr.used; page = fr.page; dirty = fr.dirty; pins = fr.pins; count = fr.count; last = fr.last; accesses = accesses; writes = fr.writes }

-- with a write log of another length
abbrev pub with_writes : Frame → ℕ → Frame
with_writes fr writes = record { used = fr.used; page = fr.page; dirty = fr.dirty; pins = fr.pins; count = fr.count; last = fr.last; accesses = fr.accesses; writes = writes }

-- the pool with other settings
abbrev pub with_settings : Pool → Settings → Pool
with_settings p s = record { settings = s; k = p.k; hand = p.hand; sampler = p.sampler; frames = p.frames; access = p.access; write = p.write }

-- with another number of accepted references
abbrev pub with_k : Pool → ℕ → Pool
with_k p k = record { settings = p.settings; k = k; hand = p.hand; sampler = p.sampler; frames = p.frames; access = p.access; write = p.write }

-- with the hand elsewhere
abbrev pub with_hand : Pool → ℕ → Pool
with_hand p hand = record { settings = p.settings; k = p.k; hand = hand; sampler = p.sampler; frames = p.frames; access = p.access; write = p.write }

-- with another sampler number
abbrev pub with_sampler : Pool → ℕ → Pool
with_sampler p sampler = record { settings = p.settings; k = p.k; hand = p.hand; sampler = sampler; frames = p.frames; access = p.access; write = p.write }

-- with other frames
abbrev pub with_frames : Pool → List Frame → Pool
with_frames p fs = record { settings = p.settings; k = p.k; hand = p.hand; sampler = p.sampler; frames = fs; access = p.access; write = p.write }

-- with other access logs
abbrev pub with_access : Pool → List ℕ → Pool
with_access p logs = record { settings = p.settings; k = p.k; hand = p.hand; sampler = p.sampler; frames = p.frames; access = logs; write = p.write }

-- with other write logs
abbrev pub with_write : Pool → List ℕ → Pool
with_write p logs = record { settings = p.settings; k = p.k; hand = p.hand; sampler = p.sampler; frames = p.frames; access = p.access; write = logs }

-- the pool with another frame i
abbrev pub with_frame : Pool → ℕ → Frame → Pool
with_frame p i fr = with_frames p (set p.frames i fr)

-- a fresh pool has no frame in use, and k and hand 0; its sampler number is the seed
unfoldable pub fresh_pool : Settings → Pool
fresh_pool s = record {
  settings = s;
  k = 0;
  hand = 0;
  sampler = s.seed;
  frames = replicate frame_room empty_frame;
  access = replicate 1024 0;
  write = replicate 512 0;
}

-- a refusal or 0, and a pool
pub record Opened : Type 0 where
  pub refusal : ℕ
  pub pool : Pool

-- what such a call comes to
abbrev pub opened : ℕ → Pool → Opened
opened r p = record { refusal = r; pool = p }

-- what a refused call hands back: the pool of one frame
abbrev pub refused_pool : Refusal → Unopened
refused_pool r = record { refusal = r; pool = fresh_pool one_frame }

-- what a call opened: a pool, or the refusal and the pool that was handed back
abbrev pub opened_by : Result Pool Unopened → Opened
opened_by (Ok p) = opened 0 p
opened_by (Err u) = opened (number_of u.refusal) u.pool

-- a fresh pool refused by 8 comes back as that pool of one frame
unfoldable pub fresh_of : Settings → Opened
fresh_of s = pick (in_range s) (opened 0 (fresh_pool s)) (opened out_of_range (fresh_pool one_frame))

-- a step's epoch is the step divided by the epoch length, rounded down
abbrev pub epoch_at : Settings → ℕ → ℕ
epoch_at s step = step / s.span

-- now is k's epoch, with k taken before the reference
abbrev pub now_at : Settings → ℕ → ℕ
now_at s k = epoch_at s k

-- a pool's now
unfoldable pub now_of : Pool → ℕ
now_of p = now_at p.settings p.k

-- a last step's epoch likewise: of a frame
abbrev pub last_epoch : Settings → Frame → ℕ
last_epoch s fr = epoch_at s fr.last

-- of frame i
unfoldable pub last_epoch_of : Pool → ℕ → ℕ
last_epoch_of p i = last_epoch p.settings (frame_at p.frames i)

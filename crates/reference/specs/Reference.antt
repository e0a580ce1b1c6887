-- Reference: the bookkeeping of a hit, of a fetch, of a pin and of an unpin.
use Rattle.std.specs.Prelude.{ℕ, ◌+◌, ◌-◌, ◌*◌, min, Bool, true, ◌||◌}
use Rattle.pool.specs.declared.Frame.{Frame}
use Rattle.pool.specs.declared.Pool.{Pool}
use Rattle.pool.specs.Pool.{access_room, write_room, empty_frame, frame_at, with_used, with_page, with_dirty, with_pins, with_count, with_last, with_accesses, with_writes, with_k, with_access, with_write, with_frame, now_of}
use Rattle.reference.specs.Logs.{cleared, length_with, log_with}

-- the lengths of frame i's logs afterwards
abbrev pub accesses_then : Pool → ℕ → ℕ
accesses_then p i = length_with p.access (i * access_room) access_room (frame_at p.frames i).accesses (now_of p) true

abbrev pub writes_then : Pool → ℕ → Bool → ℕ
writes_then p i write = length_with p.write (i * write_room) write_room (frame_at p.frames i).writes (now_of p) write

-- last step becomes the old k; the logs are as long as they are then; a write sets dirty
abbrev pub referred_frame : Pool → ℕ → Bool → Frame
referred_frame p i write =
    let fr = with_last (frame_at p.frames i) p.k in
    with_writes (with_accesses (with_dirty fr (fr.dirty || write)) (accesses_then p i)) (writes_then p i write)

-- now is put at the front of the access log; a write does the same to the write log
abbrev pub logged_at : Pool → ℕ → Bool → Pool
logged_at p i write =
    with_write (with_access p (log_with p.access (i * access_room) access_room (frame_at p.frames i).accesses (now_of p) true))
    (log_with p.write (i * write_room) write_room (frame_at p.frames i).writes (now_of p) write)

-- and k rises by 1
unfoldable pub referred : Pool → ℕ → Bool → Pool
referred p i write = with_k (with_frame (logged_at p i write) i (referred_frame p i write)) (p.k + 1)

-- a hit raises the clock count by 1 up to the cap
abbrev pub raised : ℕ → ℕ → ℕ
raised cap n = min (n + 1) cap

-- a hit in frame i
unfoldable pub hit_at : Pool → ℕ → Bool → Pool
hit_at p i write = referred (with_frame p i (with_count (frame_at p.frames i) (raised p.settings.cap (frame_at p.frames i).count))) i write

-- a fetched page starts with empty logs, clean, unpinned, clock count 1
abbrev pub new_frame : ℕ → Frame
new_frame page = with_count (with_page (with_used empty_frame true) page) 1

-- frame i with a page that is fetched, its logs empty
abbrev pub emptied : Pool → ℕ → ℕ → Pool
emptied p i page =
    with_write (with_access (with_frame p i (new_frame page)) (cleared p.access (i * access_room) access_room)) (cleared p.write (i * write_room) write_room)

-- a page fetched into frame i
unfoldable pub fetched_at : Pool → ℕ → ℕ → Bool → Pool
fetched_at p i page write = referred (emptied p i page) i write

-- a pin then adds 1 to the pin count
unfoldable pub pinned_at : Pool → ℕ → Pool
pinned_at p i = with_frame p i (with_pins (frame_at p.frames i) ((frame_at p.frames i).pins + 1))

-- unpin takes 1 off; it is no reference and touches neither k nor logs
unfoldable pub unpinned_at : Pool → ℕ → Pool
unpinned_at p i = with_frame p i (with_pins (frame_at p.frames i) ((frame_at p.frames i).pins - 1))

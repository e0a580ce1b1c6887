-- What the functions of the code say of themselves. Who reads the rules passes this over.
-- `worked_is` in proofs/ shows that settling, making room and entering is `record_of`.
use Rattle.std.specs.Prelude.{ℕ, zero, suc, ◌+◌, ◌-◌, ◌*◌, ◌≤◌, ◌<◌, ◌≡◌, Bool, true, false, ◌&&◌, ◌||◌, not, List, [], length, eqb, leb, Option, Some}
use Rattle.std.proofs.lemmas.List.Edits.{sets}
use Rattle.search.specs.Search.{pick, on_found}
use Rattle.refusal.specs.Refusals.{bad_field, no_reference_left, no_frame, not_pinned, pins_full}
use Rattle.pool.specs.declared.Frame.{Frame}
use Rattle.pool.specs.declared.Pool.{Pool}
use Rattle.limit.specs.Limits.{reference_limit}
use Rattle.pool.specs.Pool.{access_room, write_room, frame_at, with_dirty, with_pins, with_count, with_last, with_accesses, with_writes, with_k, with_frames, with_access, with_write, with_frame, now_of}
use Rattle.pool.specs.Sound.{sound_pool}
use Rattle.table.specs.declared.Bench.{Bench}
use Rattle.table.specs.Table.{pool_on}
use Rattle.reference.specs.ForCode.{RestZero}
use Rattle.reference.specs.Logs.{cleared, length_with, log_with}
use Rattle.reference.specs.Reference.{raised, new_frame, unpinned_at}
use Rattle.victim.specs.Choice.{left_by}
use Rattle.victim.specs.Rules.{choice_of}
use Rattle.batch.specs.Batch.{batch_of, cleaned, pages_of}
use Rattle.tally.specs.declared.Row.{Row}
use Rattle.tally.specs.Rows.{row, hit, miss_unused, miss_clean, miss_dirty, unpin_done, refused_row}
use Rattle.effect.specs.declared.Asked.{Asked}
use Rattle.effect.specs.Record.{Did, pin_limit}

-- row and pool
pub record Effect : Type 0 where
  pub row : Row
  pub pool : Pool

-- those of what was done
abbrev pub effect_of : Did → Effect
effect_of d = record { row = d.row; pool = d.pool }

-- what the code answers, and the pool that it leaves on the bench
abbrev pub effect_on : Row → Bench → Effect
effect_on w b = record { row = w; pool = pool_on b }

-- row and pool as they should be, the pages written put to the lent list from `at` on, and every other place as it was
pub record Leaves (d : Did) (at : ℕ) (w : Row) (b : Bench) (before after : List ℕ) : Type 0 where
  pub effect : effect_on w b ≡ effect_of d
  pub list : after ≡ sets before at d.written

-- a sound pool with all its log places, and as many places from `at` on as pages are written
pub record Plays (p : Pool) (d : Did) (at places : ℕ) : Type 0 where
  pub sound : sound_pool p ≡ true
  pub access : length p.access ≡ 1024
  pub write : length p.write ≡ 512
  pub room : at + length d.written ≤ places

-- what was found is a frame
abbrev pub Framed : Option ℕ → Type 0
Framed f = (i : ℕ) → f ≡ Some i → i < 128

-- a hit in frame i, which has so many pins
abbrev pub settled_hit : ℕ → ℕ → Bool → Row
settled_hit pins i pin = pick (pin && eqb pins pin_limit) (refused_row pins_full) (row hit i 0 0)

-- a miss: in an unused frame, or a victim is wanted
abbrev pub settled_miss : Option ℕ → Row
settled_miss free = on_found free (λ i. row miss_unused i 0 0) (row miss_clean 0 0 0)

-- a reference at step k
unfoldable pub settled_reference : ℕ → Option ℕ → ℕ → Option ℕ → Bool → Row
settled_reference k found pins free pin = pick (leb reference_limit k) (refused_row no_reference_left) (on_found found (λ i. settled_hit pins i pin) (settled_miss free))

-- an unpin
unfoldable pub settled_unpin : Option ℕ → ℕ → Row
settled_unpin found pins = on_found found (λ i. pick (eqb pins 0) (refused_row not_pinned) (row unpin_done i 0 0)) (refused_row not_pinned)

-- a reference or an unpin, or neither; with a write, with a pin
abbrev pub asked : Bool → Bool → Bool → Bool → Asked
asked reference unpin write pin = record { reference = reference; unpin = unpin; write = write; pin = pin }

-- what a kind asks for: a bad one, nothing
abbrev pub asked_by : ℕ → Asked
asked_by zero = asked true false false false
asked_by (suc zero) = asked true false true false
asked_by (suc (suc zero)) = asked true false false true
asked_by (suc (suc (suc zero))) = asked false true false false
asked_by (suc (suc (suc (suc kind)))) = asked false false false false

-- the row, but where a victim is wanted, from the frame in which the page was found, its pins, and the lowest unused frame
unfoldable pub settled_by : ℕ → Option ℕ → ℕ → Option ℕ → Asked → Row
settled_by k found pins free asks =
    pick asks.reference (settled_reference k found pins free asks.pin)
    (pick asks.unpin (settled_unpin found pins) (refused_row bad_field))

-- the frame in which a page was found, or 0
abbrev pub place_of : Option ℕ → ℕ
place_of found = on_found found (λ i. i) 0

module _ (p : Pool) where
  -- where a victim is wanted: the row
  unfoldable pub room_row : Row
  room_row = on_found (choice_of p).found (λ v. row (pick (frame_at (choice_of p).frames v).dirty miss_dirty miss_clean) v (frame_at (choice_of p).frames v).page (length (batch_of (left_by p (choice_of p)) v))) (refused_row no_frame)

  -- the pages written
  unfoldable pub room_pages : List ℕ
  room_pages = on_found (choice_of p).found (λ v. pages_of (choice_of p).frames (batch_of (left_by p (choice_of p)) v)) []

  -- and the frames then
  unfoldable pub room_frames : List Frame
  room_frames = on_found (choice_of p).found (λ v. cleaned (choice_of p).frames (batch_of (left_by p (choice_of p)) v)) (choice_of p).frames

  -- the pool with room
  abbrev pub roomed : Pool
  roomed = with_frames (left_by p (choice_of p)) room_frames

-- what making room leaves
pub record RoomMade (p : Pool) (at : ℕ) (r : Row) (b : Bench) (before after : List ℕ) : Type 0 where
  pub row : r ≡ room_row p
  pub pool : pool_on b ≡ roomed p
  pub list : after ≡ sets before at (room_pages p)
  pub frame : r.frame < 128

-- with a settled row: room is made where a victim is wanted
module _ (p : Pool) (w : Row) where
  abbrev pub wanted : Bool
  wanted = eqb w.outcome miss_clean

  -- the row then, the pages written, and the pool with room
  abbrev pub row_where : Row
  row_where = pick wanted (room_row p) w

  abbrev pub pages_where : List ℕ
  pages_where = pick wanted (room_pages p) []

  abbrev pub pool_where : Pool
  pool_where = pick wanted (roomed p) p

-- a sound pool, a row in a frame, and as many places from `at` on as pages are written
pub record RoomAsked (p : Pool) (w : Row) (at places : ℕ) : Type 0 where
  pub sound : sound_pool p ≡ true
  pub frame : w.frame < 128
  pub room : at + length (pages_where p w) ≤ places

-- what is left then
pub record RoomWhere (p : Pool) (w : Row) (at : ℕ) (r : Row) (b : Bench) (before after : List ℕ) : Type 0 where
  pub row : r ≡ row_where p w
  pub pool : pool_on b ≡ pool_where p w
  pub list : after ≡ sets before at (pages_where p w)
  pub frame : r.frame < 128

-- one pin more where it is asked for and the count is not full
abbrev pub pins_with : Bool → ℕ → ℕ
pins_with pin n = pick (pin && not (eqb n pin_limit)) (n + 1) n

-- a frame that is hit, but for its logs
abbrev pub hit_frame : Frame → Bool → Bool → ℕ → ℕ → Frame
hit_frame fr write pin cap k = with_last (with_count (with_pins (with_dirty fr (fr.dirty || write)) (pins_with pin fr.pins)) (raised cap fr.count)) k

-- a frame with a page that is fetched, but for its logs
abbrev pub fetched_frame : ℕ → Bool → Bool → ℕ → Frame
fetched_frame page write pin k = with_last (with_pins (with_dirty (new_frame page) write) (pins_with pin 0)) k

-- a frame that is unpinned
abbrev pub unpinned_frame : Frame → Frame
unpinned_frame fr = with_pins fr (fr.pins - 1)

-- a frame with logs of other lengths
abbrev pub with_lengths : Frame → ℕ → ℕ → Frame
with_lengths fr n m = with_writes (with_accesses fr n) m

-- a reference in frame i: what becomes of the frame, and of the logs
abbrev pub entered_at : Pool → ℕ → Frame → List ℕ → List ℕ → Bool → Pool
entered_at p i fr access write on =
    let n = length_with access (i * access_room) access_room fr.accesses (now_of p) true in
    let m = length_with write (i * write_room) write_room fr.writes (now_of p) on in
    let logs = with_access p (log_with access (i * access_room) access_room fr.accesses (now_of p) true) in
    with_k (with_frame (with_write logs (log_with write (i * write_room) write_room fr.writes (now_of p) on)) i (with_lengths fr n m)) (p.k + 1)

-- a hit in frame i, in place
unfoldable pub hit_in : Pool → ℕ → Bool → Bool → Pool
hit_in p i write pin = entered_at p i (hit_frame (frame_at p.frames i) write pin p.settings.cap p.k) p.access p.write write

-- a page fetched into frame i, in place
unfoldable pub fetched_in : Pool → ℕ → ℕ → Bool → Bool → Pool
fetched_in p i page write pin =
    entered_at p i (fetched_frame page write pin p.k) (cleared p.access (i * access_room) access_room) (cleared p.write (i * write_room) write_room) write

-- by outcome: a hit, a miss, an unpin, or a refusal
abbrev pub by_outcome {ℓ} : {A : Type ℓ} → ℕ → A → A → A → A → A
by_outcome zero hit miss unpin none = hit
by_outcome (suc zero) hit miss unpin none = miss
by_outcome (suc (suc zero)) hit miss unpin none = miss
by_outcome (suc (suc (suc zero))) hit miss unpin none = miss
by_outcome (suc (suc (suc (suc zero)))) hit miss unpin none = unpin
by_outcome (suc (suc (suc (suc (suc n))))) hit miss unpin none = none

-- a record with that row
unfoldable pub entered : Pool → Row → ℕ → Asked → Pool
entered p w page asks =
    by_outcome w.outcome (hit_in p w.frame asks.write asks.pin) (fetched_in p w.frame page asks.write asks.pin) (unpinned_at p w.frame) p

-- what entering asks: a frame, an epoch length and a cap in range, and that k can rise
pub record Enterable (p : Pool) (i : ℕ) : Type 0 where
  pub frame : i < 128
  pub span : 0 < p.settings.span
  pub cap : p.settings.cap ≤ 7
  pub few : p.k ≤ reference_limit

-- and of a hit, that the places past its logs' entries are zero
pub record LogsEnd (p : Pool) (i : ℕ) : Type 0 where
  pub access : RestZero p.access (i * access_room) access_room (frame_at p.frames i).accesses
  pub write : RestZero p.write (i * write_room) write_room (frame_at p.frames i).writes

-- what a record with that row asks
abbrev pub Entering : Pool → Row → Type 0
Entering p w = Enterable p w.frame × (w.outcome ≡ hit → LogsEnd p w.frame)

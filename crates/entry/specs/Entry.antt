-- An entry of a pool image: a frame in use with both logs, 68 bytes.
use Rattle.std.specs.Prelude.{ℕ, ◌+◌, ◌*◌, Bool, true, ◌&&◌, List, [], ◌∷◌, ◌++◌, take, drop, eqb, leb}
use Rattle.word.specs.Number.{number_at, bytes_of}
use Rattle.word.specs.declared.Order.{Order}
use Rattle.search.specs.Search.{one_if}
use Rattle.trace.specs.Layout.{up_to}
use Rattle.pool.specs.declared.Frame.{Frame}
use Rattle.pool.specs.declared.Pool.{Pool}
use Rattle.pool.specs.Pool.{access_room, write_room, frame_at}

-- the length of an entry
abbrev pub entry_length : ℕ
entry_length = 68

-- the numbers of 4 bytes that stand one after the other from a place on, n of them
abbrev pub words_at : Order → List ℕ → ℕ → ℕ → List ℕ
words_at o s at n = up_to (λ j. number_at o 4 (at + 4 * j) s) n

module _ (o : Order) (s : List ℕ) (at : ℕ) where
  -- page (4)
  abbrev pub page_in : ℕ
  page_in = number_at o 4 at s

  -- last step (4)
  abbrev pub last_in : ℕ
  last_in = number_at o 4 (at + 4) s

  -- pin count (2)
  abbrev pub pins_in : ℕ
  pins_in = number_at o 2 (at + 8) s

  -- clock count (2)
  abbrev pub count_in : ℕ
  count_in = number_at o 2 (at + 10) s

  -- dirty (2: 0 or 1)
  abbrev pub dirty_in : ℕ
  dirty_in = number_at o 2 (at + 12) s

  -- entries in the access log (2)
  abbrev pub accesses_in : ℕ
  accesses_in = number_at o 2 (at + 14) s

  -- entries in the write log (2)
  abbrev pub writes_in : ℕ
  writes_in = number_at o 2 (at + 16) s

  -- zero (2)
  abbrev pub zero_in : ℕ
  zero_in = number_at o 2 (at + 18) s

  -- the access log (8 × 4)
  unfoldable pub access_in : List ℕ
  access_in = words_at o s (at + 20) access_room

  -- the write log (4 × 4)
  unfoldable pub write_in : List ℕ
  write_in = words_at o s (at + 52) write_room

  -- dirty is 0 or 1, and the numbers that a frame keeps in a byte fit it
  unfoldable pub entry_fits : Bool
  entry_fits = leb dirty_in 1 && (leb pins_in 255 && (leb count_in 255 && (leb accesses_in 255 && leb writes_in 255)))

  -- the frame
  unfoldable pub frame_in : Frame
  frame_in = record {
    used = true;
    page = page_in;
    dirty = eqb dirty_in 1;
    pins = pins_in;
    count = count_in;
    last = last_in;
    accesses = accesses_in;
    writes = writes_in;
  }

-- the bytes of numbers, 4 for each
abbrev pub word_bytes : Order → List ℕ → List ℕ
word_bytes o [] = []
word_bytes o (n ∷ ns) = bytes_of o 4 n ++ word_bytes o ns

-- before the logs: page, last step, pin count, clock count, dirty, entries in the access log and in the write log, zero
unfoldable pub field_bytes : Order → Frame → List ℕ
field_bytes o fr =
    bytes_of o 4 fr.page
    ++ bytes_of o 4 fr.last
    ++ bytes_of o 2 fr.pins
    ++ bytes_of o 2 fr.count
    ++ bytes_of o 2 (one_if fr.dirty)
    ++ bytes_of o 2 fr.accesses
    ++ bytes_of o 2 fr.writes
    ++ bytes_of o 2 0

module _ (p : Pool) (i : ℕ) where
  -- all places of frame i's access log; those past its entries are part of the pool
  abbrev pub access_of : List ℕ
  access_of = take access_room (drop (i * access_room) p.access)

  -- and of its write log
  abbrev pub write_of : List ℕ
  write_of = take write_room (drop (i * write_room) p.write)

-- the entry of frame i
unfoldable pub entry_bytes : Order → Pool → ℕ → List ℕ
entry_bytes o p i = field_bytes o (frame_at p.frames i) ++ word_bytes o (access_of p i) ++ word_bytes o (write_of p i)

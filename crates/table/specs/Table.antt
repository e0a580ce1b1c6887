-- A pool's frames as a table of numbers: eight to a frame, field after field; then guesses at the frames of pages, which no frame reads.
use Rattle.std.specs.Prelude.{ℕ, zero, suc, ◌+◌, ◌%◌, List, [], ◌∷◌, ◌++◌, get_or, eqb}
use Rattle.pool.specs.declared.Frame.{Frame}
use Rattle.pool.specs.declared.Pool.{Pool}
use Rattle.table.specs.declared.Bench.{Bench}

-- the guesses begin behind eight numbers to a frame, and are 1,024
abbrev pub guess_start : ℕ
guess_start = 1024

abbrev pub table_length : ℕ
table_length = 2048

-- the frame that the table holds for i
unfoldable pub frame_in : List ℕ → ℕ → Frame
frame_in t i = record {
  used = eqb (get_or t i 0) 1;
  page = get_or t (i + 128) 0;
  dirty = eqb (get_or t (i + 256) 0) 1;
  pins = get_or t (i + 384) 0 % 256;
  count = get_or t (i + 512) 0 % 256;
  last = get_or t (i + 640) 0;
  accesses = get_or t (i + 768) 0 % 256;
  writes = get_or t (i + 896) 0 % 256;
}

-- the first n frames
unfoldable pub frames_to : List ℕ → ℕ → List Frame
frames_to t zero = []
frames_to t (suc n) = frames_to t n ++ (frame_in t n ∷ [])

-- all of them
abbrev pub frames_in : List ℕ → List Frame
frames_in t = frames_to t 128

-- where the guess at a page's frame stands, and the frame that it names
abbrev pub guess_place : ℕ → ℕ
guess_place page = guess_start + page % 1024

abbrev pub guess_in : List ℕ → ℕ → ℕ
guess_in t page = get_or t (guess_place page) 0 % 128

-- the pool that lies on a bench
abbrev pub pool_on : Bench → Pool
pool_on b = record {
  settings = b.head.settings;
  k = b.head.k;
  hand = b.head.hand;
  sampler = b.head.sampler;
  frames = frames_in b.table;
  access = b.access;
  write = b.write;
}

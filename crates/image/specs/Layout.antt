-- The pool image, edition 1: a header of 64 bytes, then one entry for each frame in use, from frame 0 up.
use Rattle.std.specs.Prelude.{ℕ, ◌+◌, ◌*◌, List, [], ◌∷◌, ◌++◌}
use Rattle.std.proofs.lemmas.List.Edits.{sets}
use Rattle.word.specs.Number.{number_at, bytes_of}
use Rattle.word.specs.declared.Order.{Order}
use Rattle.search.specs.Search.{count_below}
use Rattle.settings.specs.declared.Settings.{Settings}
use Rattle.settings.specs.Settings.{settings_at, settings_bytes}
use Rattle.trace.specs.Encode.{mark_bytes}
use Rattle.pool.specs.declared.Pool.{Pool}
use Rattle.pool.specs.Pool.{frame_room, frame_at, fresh_pool}
use Rattle.entry.specs.Run.{run_of}
use Rattle.entry.specs.Entry.{entry_length, access_in, write_in, frame_in, entry_bytes}

-- the edition
abbrev pub image_edition : ℕ
image_edition = 1

-- the header's length, and where the entries begin
abbrev pub image_header : ℕ
image_header = 64

-- the length of an image with u frames in use; entry i stands where an image with i ends
abbrev pub image_length : ℕ → ℕ
image_length u = image_header + entry_length * u

-- ---- what stands where, after the mark

module _ (o : Order) (s : List ℕ) where
  -- at 4, 2 bytes: edition
  abbrev pub edition_at : ℕ
  edition_at = number_at o 2 4 s

  -- at 6, 2 bytes: zero
  abbrev pub zero_at6 : ℕ
  zero_at6 = number_at o 2 6 s

  -- at 8, 4 bytes: number of frames in use u
  abbrev pub used_at : ℕ
  used_at = number_at o 4 8 s

  -- at 12, 4 bytes: offset of the first entry
  abbrev pub offset_at : ℕ
  offset_at = number_at o 4 12 s

  -- at 16, 4 bytes: length of an entry
  abbrev pub entry_length_at : ℕ
  entry_length_at = number_at o 4 16 s

  -- at 20, 4 bytes: file length
  abbrev pub length_at : ℕ
  length_at = number_at o 4 20 s

  -- from 24 to 43: the settings, each where a trace has it
  abbrev pub settings_in : Settings
  settings_in = settings_at o 24 s

  -- at 44, 4 bytes: zero
  abbrev pub zero_at44 : ℕ
  zero_at44 = number_at o 4 44 s

  -- at 48, 4 bytes: k
  abbrev pub k_at : ℕ
  k_at = number_at o 4 48 s

  -- at 52, 2 bytes: hand
  abbrev pub hand_at : ℕ
  hand_at = number_at o 2 52 s

  -- at 54, 2 bytes: zero
  abbrev pub zero_at54 : ℕ
  zero_at54 = number_at o 2 54 s

  -- at 56, 4 bytes: sampler number
  abbrev pub sampler_at : ℕ
  sampler_at = number_at o 4 56 s

  -- at 60, 4 bytes: zero
  abbrev pub zero_at60 : ℕ
  zero_at60 = number_at o 4 60 s

  -- the pool with the first u entries as its lowest frames; all other frames and log places are those of a fresh pool
  unfoldable pub pool_to : ℕ → Pool
  pool_to u = record {
    settings = settings_in;
    k = k_at;
    hand = hand_at;
    sampler = sampler_at;
    frames = sets (fresh_pool settings_in).frames 0 (run_of (λ i. frame_in o s (image_length i) ∷ []) u);
    access = sets (fresh_pool settings_in).access 0 (run_of (λ i. access_in o s (image_length i)) u);
    write = sets (fresh_pool settings_in).write 0 (run_of (λ i. write_in o s (image_length i)) u);
  }

  -- the pool that bytes in an order hold
  abbrev pub pool_at : Pool
  pool_at = pool_to used_at

-- ---- the bytes of a pool

-- the number of frames in use
unfoldable pub used_in : Pool → ℕ
used_in p = count_below (λ i. (frame_at p.frames i).used) frame_room

-- before the settings: mark, edition, zero, number of frames in use, offset of the first entry, length of an entry, file length
abbrev pub front_bytes : Order → ℕ → List ℕ
front_bytes o u =
    mark_bytes o
    ++ bytes_of o 2 image_edition
    ++ bytes_of o 2 0
    ++ bytes_of o 4 u
    ++ bytes_of o 4 image_header
    ++ bytes_of o 4 entry_length
    ++ bytes_of o 4 (image_length u)

-- after them: zero, k, hand, zero, sampler number, zero
abbrev pub back_bytes : Order → ℕ → ℕ → ℕ → List ℕ
back_bytes o k hand sampler = bytes_of o 4 0 ++ bytes_of o 4 k ++ bytes_of o 2 hand ++ bytes_of o 2 0 ++ bytes_of o 4 sampler ++ bytes_of o 4 0

-- the header
unfoldable pub header_bytes : Order → Pool → ℕ → List ℕ
header_bytes o p u = front_bytes o u ++ settings_bytes o p.settings ++ back_bytes o p.k p.hand p.sampler

-- one encoding for a sound pool and an order: the header, then the entries
unfoldable pub encode_pool : Order → Pool → List ℕ
encode_pool o p = header_bytes o p (used_in p) ++ run_of (entry_bytes o p) (used_in p)

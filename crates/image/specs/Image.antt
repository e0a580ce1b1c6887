-- Reading and writing an image: the refusals in their order, the pool or the bytes.
use Rattle.std.specs.Prelude.{Option, Some, None, ℕ, zero, suc, ◌*◌, ◌<◌, ◌≡◌, Bool, ◌&&◌, List, length, eqb, leb}
use Rattle.word.specs.declared.Order.{Order}
use Rattle.search.specs.Search.{every_below}
use Rattle.refusal.specs.Refusals.{demand, or_else, stored, too_short, unknown_mark, other_edition, wrong_length, bad_field, no_room, not_sound}
use Rattle.settings.specs.Settings.{one_frame}
use Rattle.trace.specs.Layout.{mark_of}
use Rattle.trace.specs.Check.{order_marked}
use Rattle.pool.specs.declared.Pool.{Pool}
use Rattle.pool.specs.Pool.{frame_room, access_room, write_room, frame_at, fresh_pool, opened, Opened}
use Rattle.pool.specs.Sound.{pool_refusal}
use Rattle.entry.specs.Entry.{entry_length, zero_in, entry_fits}
use Rattle.image.specs.Layout.{image_edition, image_header, image_length, edition_at, zero_at6, used_at, offset_at, entry_length_at, length_at, zero_at44, zero_at54, zero_at60, pool_at, used_in, encode_pool}

-- ---- the reader

module _ (o : Order) (s : List ℕ) where
  -- offset, entry length, length field and actual length
  abbrev pub lengths_right : Bool
  lengths_right =
      eqb (offset_at o s) image_header
      && (eqb (entry_length_at o s) entry_length
      && (eqb (length_at o s) (image_length (used_at o s))
      && eqb (length s) (image_length (used_at o s))))

  -- 3 another edition; 5 offset, entry length, length field or actual length wrong
  unfoldable pub layout_refusal : ℕ
  layout_refusal = demand (eqb (edition_at o s) image_edition) other_edition (demand lengths_right wrong_length 0)

  -- the zero fields of the header
  abbrev pub header_zeros : Bool
  header_zeros = eqb (zero_at6 o s) 0 && (eqb (zero_at44 o s) 0 && (eqb (zero_at54 o s) 0 && eqb (zero_at60 o s) 0))

  -- the zero field of entry i, and whether a frame can hold its numbers
  abbrev pub entry_zero : ℕ → Bool
  entry_zero i = eqb (zero_in o s (image_length i)) 0

  abbrev pub entry_held : ℕ → Bool
  entry_held i = entry_fits o s (image_length i)

  -- 6 a zero field of the header or of an entry, of all u, not zero; 14 what no pool holds: more frames in use than there are, or an entry that does not fit
  unfoldable pub content_refusal : ℕ
  content_refusal =
      demand (header_zeros && every_below entry_zero (used_at o s)) bad_field
      (demand (leb (used_at o s) frame_room && every_below entry_held (used_at o s)) not_sound 0)

  -- refusals 3 to 14 of bytes in a known order, but for soundness
  unfoldable pub held_refusal_in : ℕ
  held_refusal_in = or_else layout_refusal content_refusal

-- 2 unknown mark
abbrev pub held_refusal_marked : Option Order → List ℕ → ℕ
held_refusal_marked (Some o) s = held_refusal_in o s
held_refusal_marked None s = unknown_mark

-- 1 under 64 bytes
unfoldable pub held_refusal : List ℕ → ℕ
held_refusal s = demand (leb image_header (length s)) too_short (held_refusal_marked (mark_of s) s)

-- the order that the mark names; without a mark it has no meaning
unfoldable pub order_of : List ℕ → Order
order_of s = order_marked (mark_of s)

-- the pool that the bytes hold, sound or not; where they are refused it has no meaning
abbrev pub pool_of : List ℕ → Pool
pool_of s = pool_at (order_of s) s

-- each refusal hands back 01's one-frame pool
abbrev pub opened_or : ℕ → Pool → Opened
opened_or zero p = opened 0 p
opened_or (suc r) p = opened (suc r) (fresh_pool one_frame)

-- the pool that an image holds, sound or not
unfoldable pub held_of : List ℕ → Opened
held_of s = opened_or (held_refusal s) (pool_of s)

-- 14 anything else that is no sound pool
unfoldable pub image_refusal : List ℕ → ℕ
image_refusal s = or_else (held_refusal s) (pool_refusal (pool_of s))

-- the reader's answer
unfoldable pub image_of : List ℕ → Opened
image_of s = opened_or (image_refusal s) (pool_of s)

-- ---- the writer

-- 14, then 13, where it is lent so many bytes
unfoldable pub saving_refusal : Pool → ℕ → ℕ
saving_refusal p room = or_else (pool_refusal p) (demand (leb (image_length (used_in p)) room) no_room 0)

-- the writer on lent bytes: its answer, and every byte afterwards
pub record SavedTo (p : Pool) (o : Order) (out : List ℕ) (answer : ℕ) (out' : List ℕ) : Type 0 where
  pub answers : answer ≡ saving_refusal p (length out)
  pub bytes_hold : out' ≡ stored (saving_refusal p (length out)) (encode_pool o p) out

-- ---- both

-- what the types say of a pool beyond soundness: the lengths of its arrays, pages, sampler number and seed of 4 bytes, pin counts of one
pub record Typed (p : Pool) : Type 0 where
  pub frames : length p.frames ≡ frame_room
  pub access : length p.access ≡ frame_room * access_room
  pub write : length p.write ≡ frame_room * write_room
  pub page : (i : ℕ) → (frame_at p.frames i).page < 4294967296
  pub pins : (i : ℕ) → (frame_at p.frames i).pins < 256
  pub sampler : p.sampler < 4294967296
  pub seed : p.settings.seed < 4294967296

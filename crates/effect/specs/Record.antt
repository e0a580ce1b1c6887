-- What one record does to a pool: its row, the pages written, and the pool afterwards.
use Rattle.std.specs.Prelude.{ℕ, zero, suc, Bool, true, false, ◌&&◌, List, [], length, eqb, leb}
use Rattle.search.specs.Search.{pick, on_found, count_below}
use Rattle.refusal.specs.Refusals.{bad_field, no_reference_left, no_frame, not_pinned, pins_full}
use Rattle.pool.specs.declared.Frame.{Frame}
use Rattle.pool.specs.declared.Pool.{Pool}
use Rattle.limit.specs.Limits.{reference_limit}
use Rattle.pool.specs.Pool.{frame_room, frame_at, with_frames}
use Rattle.reference.specs.Search.{find_page, lowest_unused}
use Rattle.reference.specs.Reference.{hit_at, fetched_at, pinned_at, unpinned_at}
use Rattle.victim.specs.Choice.{Choice, left_by}
use Rattle.victim.specs.Rules.{choice_of}
use Rattle.batch.specs.Batch.{batch_of, cleaned, pages_of}
use Rattle.tally.specs.declared.Row.{Row}
use Rattle.tally.specs.Rows.{row, hit, miss_unused, miss_clean, miss_dirty, unpin_done, refused_row}

-- a record's row, its written pages, the pool afterwards
pub record Did : Type 0 where
  pub row : Row
  pub written : List ℕ
  pub pool : Pool

-- what a record did, from these three
abbrev pub did : Row → List ℕ → Pool → Did
did w pages p = record { row = w; written = pages; pool = p }

-- the greatest pin count
abbrev pub pin_limit : ℕ
pin_limit = 255

module _ (p : Pool) where
  -- a refused record leaves the pool unchanged and fills its row
  abbrev pub refusal : ℕ → Did
  refusal r = did (refused_row r) [] p

  -- how often frame i is pinned
  abbrev pub pins_at : ℕ → ℕ
  pins_at i = (frame_at p.frames i).pins

  -- a pin then adds 1 to the pin count
  abbrev pub pinned_where : Bool → ℕ → Pool
  pinned_where pin i = pick pin (pinned_at p i) p

-- the page is fetched into frame i
abbrev pub filled : Pool → ℕ → ℕ → Bool → Bool → Pool
filled p i page write pin = pinned_where (fetched_at p i page write) pin i

-- "a resident page is a hit"; 12: pin of a resident page with pin count 255
unfoldable pub hit_of : Pool → ℕ → Bool → Bool → Did
hit_of p i write pin =
    pick (pin && eqb (pins_at p i) pin_limit) (refusal p pins_full)
    (did (row hit i 0 0) [] (pinned_where (hit_at p i write) pin i))

-- victim v of a pool as the rule leaves it: its batch is written, and the page is fetched into its frame
unfoldable pub leaving_of : Pool → ℕ → ℕ → Bool → Bool → Did
leaving_of p v page write pin =
    did (row (pick (frame_at p.frames v).dirty miss_dirty miss_clean) v (frame_at p.frames v).page (length (batch_of p v)))
    (pages_of p.frames (batch_of p v))
    (filled (with_frames p (cleaned p.frames (batch_of p v))) v page write pin)

-- what a choice comes to; 10: a miss with all f frames in use and pinned
abbrev pub evicted_by : Pool → Choice → ℕ → Bool → Bool → Did
evicted_by p c page write pin = on_found c.found (λ v. leaving_of (left_by p c) v page write pin) (refusal p no_frame)

-- with no unused frame, the victim's
unfoldable pub eviction_of : Pool → ℕ → Bool → Bool → Did
eviction_of p page write pin = evicted_by p (choice_of p) page write pin

-- "otherwise it is a miss: the lowest unused frame below f, else the victim's"
unfoldable pub miss_of : Pool → ℕ → Bool → Bool → Did
miss_of p page write pin =
    on_found (lowest_unused p) (λ i. did (row miss_unused i 0 0) [] (filled p i page write pin)) (eviction_of p page write pin)

-- a reference (read, write, pin); 9: k is 50,000 at a reference
unfoldable pub reference_of : Pool → ℕ → Bool → Bool → Did
reference_of p page write pin =
    pick (leb reference_limit p.k) (refusal p no_reference_left)
    (on_found (find_page p.frames page) (λ i. hit_of p i write pin) (miss_of p page write pin))

-- unpin takes 1 off; 11: unpin of a page not resident or with pin count 0
unfoldable pub unpin_of : Pool → ℕ → Did
unpin_of p page =
    on_found (find_page p.frames page)
    (λ i. pick (eqb (pins_at p i) 0) (refusal p not_pinned) (did (row unpin_done i 0 0) [] (unpinned_at p i)))
    (refusal p not_pinned)

-- the kinds: 0 read, 1 write, 2 pin, 3 unpin; 4 to 65,535 are bad
unfoldable pub record_of : Pool → ℕ → ℕ → Did
record_of p page zero = reference_of p page false false
record_of p page (suc zero) = reference_of p page true false
record_of p page (suc (suc zero)) = reference_of p page false true
record_of p page (suc (suc (suc zero))) = unpin_of p page
record_of p page (suc (suc (suc (suc kind)))) = refusal p bad_field

-- how many frames are dirty
unfoldable pub dirty_in : List Frame → ℕ
dirty_in fs = count_below (λ i. (frame_at fs i).dirty) frame_room

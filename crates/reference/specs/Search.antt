-- Reference: the frame that a page is in, and the lowest unused one.
use Rattle.std.specs.Prelude.{ℕ, Bool, not, List, Option}
use Rattle.search.specs.Search.{least_below, never}
use Rattle.pool.specs.declared.Frame.{Frame}
use Rattle.pool.specs.declared.Pool.{Pool}
use Rattle.pool.specs.Pool.{frame_room, frame_at}
use Rattle.pool.specs.Sound.{holds_page}

-- whether frame i is in use and holds the page
abbrev pub has : List Frame → ℕ → ℕ → Bool
has fs page i = holds_page page (frame_at fs i)

-- a resident page is a hit: the frame in use that holds it
unfoldable pub find_page : List Frame → ℕ → Option ℕ
find_page fs page = least_below (has fs page) never frame_room

-- whether frame i is unused
abbrev pub unused : List Frame → ℕ → Bool
unused fs i = not (frame_at fs i).used

-- the lowest unused frame below f
unfoldable pub lowest_unused : Pool → Option ℕ
lowest_unused p = least_below (unused p.frames) never p.settings.frames

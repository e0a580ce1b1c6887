-- The misses for 1 to 128 frames, from how many distinct pages lie between two uses of a page.
use Rattle.std.specs.Prelude.{ℕ, suc, ◌≤◌, ◌<◌, ◌≡◌, Bool, List, length, get_or, leb}
use Rattle.search.specs.Search.{every_below}
use Rattle.refusal.specs.Refusals.{demand, or_else, stored, no_room, has_pins}
use Rattle.trace.specs.Layout.{up_to}
use Rattle.trace.specs.Check.{refusal_of, trace_of}
use Rattle.distance.specs.Distance.{misses_at}

-- the sizes: 1 to 128 frames
abbrev pub sizes : ℕ
sizes = 128

-- the misses with 1, 2, .. 128 frames
unfoldable pub curve_of : List ℕ → List ℕ
curve_of pages = up_to (λ i. misses_at pages (suc i)) sizes

-- more frames never cost more misses: no number of the first 128 is above one before it
abbrev pub NeverRises : List ℕ → Type 0
NeverRises list = (i j : ℕ) → i ≤ j → j < sizes → get_or list j 0 ≤ get_or list i 0

-- a read or a write: neither pin nor unpin
abbrev pub plain_kind : ℕ → Bool
plain_kind kind = leb kind 1

-- no record is a pin or an unpin
unfoldable pub no_pins : List ℕ → Bool
no_pins kinds = every_below (λ i. plain_kind (get_or kinds i 0)) (length kinds)

-- the trace's refusals, then 17 if a pin or unpin is present, then 13 where there is less room than needed
unfoldable pub curve_refusal : List ℕ → ℕ → ℕ → ℕ
curve_refusal s needed room = or_else (refusal_of s) (demand (no_pins (trace_of s).kinds) has_pins (demand (leb needed room) no_room 0))

-- 0 or the refusal, with 128 numbers at the front of the list: place i has the misses with i + 1 frames; on a refusal nothing is stored
pub record CurveInto (s list : List ℕ) (r : ℕ) (list' : List ℕ) : Type 0 where
  pub answers : r ≡ curve_refusal s sizes (length list)
  pub list_holds : list' ≡ stored (curve_refusal s sizes (length list)) (curve_of (trace_of s).pages) list

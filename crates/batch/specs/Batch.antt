-- Batch: its frames, and what is written and left. Its order is the rule's.
use Rattle.std.specs.Prelude.{ℕ, ◌-◌, Bool, false, ◌&&◌, not, List, [], ◌∷◌, map, set, eqb}
use Rattle.search.specs.Search.{pick}
use Rattle.pool.specs.declared.Frame.{Frame}
use Rattle.pool.specs.declared.Pool.{Pool}
use Rattle.pool.specs.Pool.{frame_at, with_dirty}
use Rattle.victim.specs.Choice.{unpinned}
use Rattle.victim.specs.Rules.{batch_order}
use Rattle.batch.specs.Taken.{others_to}

-- the other dirty unpinned frames, beside victim v
abbrev pub waits : Pool → ℕ → ℕ → Bool
waits p v i = ((frame_at p.frames i).dirty && unpinned p.frames i) && not (eqb v i)

-- a clean victim writes nothing; a dirty victim comes first, and after it the others until the batch size is reached or they end
unfoldable pub batch_of : Pool → ℕ → List ℕ
batch_of p v = pick (frame_at p.frames v).dirty (v ∷ others_to (waits p v) (batch_order p) p.settings.frames (p.settings.batch - 1)) []

-- a frame that was written back
abbrev pub clean_frame : Frame → Frame
clean_frame fr = with_dirty fr false

-- all batch pages become clean
unfoldable pub cleaned : List Frame → List ℕ → List Frame
cleaned fs [] = fs
cleaned fs (i ∷ is) = cleaned (set fs i (clean_frame (frame_at fs i))) is

-- the pages written, in order
unfoldable pub pages_of : List Frame → List ℕ → List ℕ
pages_of fs is = map (λ i. (frame_at fs i).page) is

-- Images: the image of the renamed pool is the image with its pages renamed, and the demand holds from images.
use Rattle.std.specs.Prelude.{ℕ, zero, suc, ◌≡◌, true, List, ◌∷◌}
use Rattle.std.proofs.lemmas.List.Edits.{sets}
use Rattle.word.specs.Number.{bytes_of}
use Rattle.word.specs.declared.Order.{Order}
use Rattle.refusal.specs.Refusals.{stored}
use Rattle.trace.specs.Check.{refusal_of, trace_of}
use Rattle.pool.specs.declared.Pool.{Pool}
use Rattle.pool.specs.Pool.{opened}
use Rattle.pool.specs.Sound.{sound_pool}
use Rattle.entry.specs.Entry.{page_in}
use Rattle.image.specs.Layout.{image_length, used_at, encode_pool}
use Rattle.image.specs.Image.{order_of, image_of, SavedTo, Typed}
use Rattle.tally.specs.declared.Tally.{Tally}
use Rattle.replay.specs.declared.Ended.{Ended}
use Rattle.replay.specs.Replay.{replay_of}
use Rattle.replay.specs.Calls.{Stepped, StepInto, counts_of, ReplayInto}
use Rattle.rename.specs.Renamed.{renamed_pool, renamed_bytes, renamed_played, renamed_ended}
use Rattle.rename.specs.Sameness.{AreBytes, resident_pages, pages_together, Renames}
use Rattle.rename.specs.Calls.{StepRenamed, ReplayRenamed}

module _ (ρ : ℕ → ℕ) (o : Order) (m : List ℕ) where
  -- an image with the pages of its first n entries renamed: of each entry the four bytes of its page
  unfoldable pub pages_set : ℕ → List ℕ
  pages_set zero = m
  pages_set (suc n) = sets (pages_set n) (image_length n) (bytes_of o 4 (ρ (page_in o m (image_length n))))

-- an image with its pages renamed
unfoldable pub renamed_image : (ℕ → ℕ) → List ℕ → List ℕ
renamed_image ρ m = pages_set ρ (order_of m) m (used_at (order_of m) m)

-- the image of the renamed pool is the image with its pages renamed, in either order: by its definition
abbrev pub SavedDemand : Type 0
SavedDemand = (ρ : ℕ → ℕ) (p : Pool) → Typed p → sound_pool p ≡ true → Renames ρ (resident_pages p.frames) → (o : Order) → encode_pool o (renamed_pool ρ p) ≡ renamed_image ρ (encode_pool o p)

-- and by the contract of `image::write`: the same answer, with too little room as well, and the same bytes but for the pages
abbrev pub WrittenDemand : Type 0
WrittenDemand = (ρ : ℕ → ℕ) (p : Pool) → Typed p → sound_pool p ≡ true → Renames ρ (resident_pages p.frames) → (o : Order) (out : List ℕ) (r₁ r₂ : ℕ) (out₁ out₂ : List ℕ)
    → SavedTo p o out r₁ out₁ → SavedTo (renamed_pool ρ p) o out r₂ out₂ → (r₂ ≡ r₁) × (out₂ ≡ stored r₁ (renamed_image ρ (encode_pool o p)) out)

-- an image that is read, with its pages renamed, is read as the renamed pool
abbrev pub LoadedDemand : Type 0
LoadedDemand = (ρ : ℕ → ℕ) (m : List ℕ) → AreBytes m → (image_of m).refusal ≡ 0 → Renames ρ (resident_pages (image_of m).pool.frames) → image_of (renamed_image ρ m) ≡ opened 0 (renamed_pool ρ (image_of m).pool)

-- from the renamed image and the renamed trace: a replay is the renamed replay, by its definition and by the contracts of `replay::replay` and `replay::counts`
pub record FromImage (ρ : ℕ → ℕ) (m s : List ℕ) (t : Tally) (o : Order) : Type 0 where
  pub loaded : (image_of (renamed_image ρ m)).refusal ≡ 0
  pub replayed : replay_of (image_of (renamed_image ρ m)).pool t (trace_of (renamed_bytes ρ o s)) ≡ renamed_played ρ (replay_of (image_of m).pool t (trace_of s))
  pub replay : (rows written : List ℕ) (r : Ended) (rows' written' : List ℕ)
      → ReplayInto (image_of (renamed_image ρ m)).pool t (renamed_bytes ρ o s) rows written r rows' written' → ReplayRenamed ρ (image_of m).pool t s rows written r rows' written'
  pub counts : counts_of (image_of (renamed_image ρ m)).pool t (renamed_bytes ρ o s) ≡ renamed_ended ρ (counts_of (image_of m).pool t s)

-- the demand from images, whichever order the trace is written in
abbrev pub ImageDemand : Type 0
ImageDemand = (ρ : ℕ → ℕ) (m s : List ℕ) (t : Tally) → AreBytes m → AreBytes s → (image_of m).refusal ≡ 0 → refusal_of s ≡ 0
    → Renames ρ (pages_together (image_of m).pool (trace_of s)) → (o : Order) → FromImage ρ m s t o

-- and of a single step, whose page is renamed
abbrev pub StepFromImage : Type 0
StepFromImage = (ρ : ℕ → ℕ) (m : List ℕ) (t : Tally) (page kind : ℕ) → AreBytes m → (image_of m).refusal ≡ 0 → Renames ρ (page ∷ resident_pages (image_of m).pool.frames)
    → (list : List ℕ) (r : Stepped) (list' : List ℕ) → StepInto (image_of (renamed_image ρ m)).pool t (ρ page) kind list r list' → StepRenamed ρ (image_of m).pool t page kind list r list'

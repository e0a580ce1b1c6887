-- The third demand: "Only sameness of page numbers counts: renaming pages one_to_one renames the answer and changes nothing else, under every rule."
use Rattle.std.specs.Prelude.{ℕ, ◌≡◌, List}
use Rattle.word.specs.declared.Order.{Order}
use Rattle.trace.specs.Check.{refusal_of, trace_of}
use Rattle.fresh.specs.Fresh.{fresh_counts}
use Rattle.curve.specs.Curve.{CurveInto}
use Rattle.host.specs.Counts.{CountsInto}
use Rattle.host.specs.Curve.{CurveBytesInto}
use Rattle.rename.specs.Renamed.{renamed_bytes}
use Rattle.rename.specs.Sameness.{AreBytes, Renames, Demand}
use Rattle.rename.specs.Calls.{ReplayDemand, CountsDemand, StepDemand}
use Rattle.rename.specs.Images.{SavedDemand, WrittenDemand, LoadedDemand, ImageDemand, StepFromImage}

-- from a fresh pool: the six counts stay as they were, and `hitchyawl_counts` answers the renamed bytes, written in an order, as it does the bytes given;
-- written in their own order, they have the same bytes stored
pub record SameCounts (ρ : ℕ → ℕ) (s : List ℕ) (o : Order) : Type 0 where
  pub counts : fresh_counts (trace_of (renamed_bytes ρ o s)) ≡ fresh_counts (trace_of s)
  pub answer : (out : List ℕ) (r r' : ℕ) (out₁ out₂ : List ℕ) → CountsInto s out r out₁ → CountsInto (renamed_bytes ρ o s) out r' out₂ → r' ≡ r
  pub stored : (out : List ℕ) (r r' : ℕ) (out₁ out₂ : List ℕ) → CountsInto s out r out₁ → CountsInto (renamed_bytes ρ o s) out r' out₂ → o ≡ (trace_of s).order → out₂ ≡ out₁

-- a fresh pool has no pages: of an accepted trace, with ρ one_to_one on its pages; bytes are below 256
abbrev pub FreshDemand : Type 0
FreshDemand = (ρ : ℕ → ℕ) (s : List ℕ) → AreBytes s → refusal_of s ≡ 0 → Renames ρ (trace_of s).pages → (o : Order) → SameCounts ρ s o

-- the curve stays as it was: `curve::misses` answers and stores for the renamed bytes what it does for the bytes given, whatever their order, and so does
-- `hitchyawl_curve`, which stores the same bytes where they are written in their own order
pub record SameCurve (ρ : ℕ → ℕ) (s : List ℕ) (o : Order) : Type 0 where
  pub curve : (list : List ℕ) (r r' : ℕ) (list₁ list₂ : List ℕ) → CurveInto s list r list₁ → CurveInto (renamed_bytes ρ o s) list r' list₂ → (r' ≡ r) × (list₂ ≡ list₁)
  pub answer : (out : List ℕ) (r r' : ℕ) (out₁ out₂ : List ℕ) → CurveBytesInto s out r out₁ → CurveBytesInto (renamed_bytes ρ o s) out r' out₂ → r' ≡ r
  pub stored : (out : List ℕ) (r r' : ℕ) (out₁ out₂ : List ℕ) → CurveBytesInto s out r out₁ → CurveBytesInto (renamed_bytes ρ o s) out r' out₂ → o ≡ (trace_of s).order → out₂ ≡ out₁

abbrev pub CurvesDemand : Type 0
CurvesDemand = (ρ : ℕ → ℕ) (s : List ℕ) → AreBytes s → refusal_of s ≡ 0 → Renames ρ (trace_of s).pages → (o : Order) → SameCurve ρ s o

-- the demand: of the definition of a replay, of the calls by their contracts, of the transport's counts, of the curve, and of images
pub record ThirdDemand : Type 0 where
  pub replays : Demand
  pub replay : ReplayDemand
  pub counts : CountsDemand
  pub step : StepDemand
  pub transport : FreshDemand
  pub curves : CurvesDemand
  pub saved : SavedDemand
  pub written : WrittenDemand
  pub loaded : LoadedDemand
  pub image : ImageDemand
  pub image_step : StepFromImage

-- What the single step stores and returns for the renamed pool and page, from its contract.
use mathlib.Core.Path.{◌≡◌, refl, ap, ◌∙◌}
use mathlib.Core.Bool.{true}
use mathlib.Core.List.{List, ◌∷◌}
use Prim.Native.Nat.{ℕ, zero, suc}
use lib.ListN.{length}
use Rattle.pool.specs.declared.Pool.{Pool}
use Rattle.pool.specs.Sound.{sound_pool}
use Rattle.pool.proofs.Sound.{told, made}
use Rattle.tally.specs.declared.Row.{Row}
use Rattle.tally.specs.declared.Tally.{Tally}
use Rattle.tally.specs.Tally.{counted_by}
use Rattle.effect.specs.Record.{Did, record_of}
use Rattle.replay.specs.Calls.{Stepped, may_begin, step_refusal, stepped_of, StepInto}
use Rattle.rename.specs.Renamed.{renamed_pool, renamed_stepped}
use Rattle.rename.specs.Sameness.{resident_pages, Renames}
use Rattle.rename.specs.Calls.{StepRenamed, StepDemand}
use Rattle.rename.proofs.Pages.{page_in_lem, residents_in}
use Rattle.rename.proofs.Sound.{sound_renamed}
use Rattle.rename.proofs.Record.{renamed_did, refused_row_lem, record_renamed}

-- where a step ends, by its refusal
stepped_renamed : (ρ : ℕ → ℕ) (n : ℕ) (p : Pool) (t : Tally) (d : Did) → stepped_of n (renamed_pool ρ p) t (renamed_did ρ d) ≡ renamed_stepped ρ (stepped_of n p t d)
unfolding counted_by
stepped_renamed ρ zero p t d = refl
stepped_renamed ρ (suc n) p t d = ap (λ (w : Row). record { refusal = suc n; row = w; pool = renamed_pool ρ p; tally = t }) (refused_row_lem ρ (suc n))

module _ (ρ : ℕ → ℕ) (p : Pool) (t : Tally) (page kind : ℕ) (sound : sound_pool p ≡ true) (names : Renames ρ (page ∷ resident_pages p.frames)) where
  abbrev pages : List ℕ
  pages = page ∷ resident_pages p.frames

  still_sound : sound_pool (renamed_pool ρ p) ≡ true
  still_sound = made (renamed_pool ρ p) (sound_renamed ρ pages names p (told p sound) (residents_in page p.frames))

  did_renamed : record_of (renamed_pool ρ p) (ρ page) kind ≡ renamed_did ρ (record_of p page kind)
  did_renamed = record_renamed ρ pages names p (told p sound) (residents_in page p.frames) page (page_in_lem page p.frames) kind

  step_refused : (places : ℕ) → step_refusal (renamed_pool ρ p) t kind places ≡ step_refusal p t kind places
  unfolding step_refusal may_begin
  step_refused places = rw (still_sound, sound)

  steps_renamed : (list : List ℕ) (r : Stepped) (list' : List ℕ) → StepInto (renamed_pool ρ p) t (ρ page) kind list r list' → StepRenamed ρ p t page kind list r list'
  steps_renamed list r list' x =
      let e = step_refused (length list) in
      let n = step_refusal p t kind (length list) in record {
        answers = x.answers ∙ rw (e, did_renamed) (stepped_renamed ρ n p t (record_of p page kind));
        list_holds = x.list_holds ∙ rw (e, did_renamed);
      }

pub step_alike : StepDemand
step_alike = steps_renamed

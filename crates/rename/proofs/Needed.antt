-- That ρ is one_to_one on the pages of trace and pool together is needed.
use mathlib.Core.Path.{◌≡◌, refl, ap, sym, ◌∙◌}
use mathlib.Core.Bool.{true, or-false}
use mathlib.Core.List.{List, [], ◌∷◌}
use Prim.Native.Nat.{ℕ}
use native.Mathlib.Omega.{arith}
use lib.Dec.{eqb}
use borrow.Author.Tests.{eqb-true}
use lib.ListN.{get_or}
use Rattle.search.specs.Search.{least_below, every_below, among}
use Rattle.word.specs.declared.Order.TheVariants.{High}
use Rattle.settings.specs.Settings.{in_range, settings_bytes, settings_at, one_frame}
use Rattle.trace.specs.Layout.{trace_from, trace_at}
use Rattle.trace.specs.Encode.{header_bytes, record_bytes, encode}
use Rattle.trace.specs.Check.{layout_refusal, content_refusal, refusal_in, refusal_of, trace_of}
use Rattle.trace.proofs.Bytes.{encode_bytes}
use Rattle.pool.specs.Pool.{fresh_pool, now_of, last_epoch_of}
use Rattle.pool.specs.Sound.{sound_log, sound_pool}
use Rattle.reference.specs.Search.{find_page, lowest_unused}
use Rattle.reference.specs.Logs.{put_front, cleared, length_with, log_with}
use Rattle.reference.specs.Reference.{referred, hit_at, fetched_at}
use Rattle.victim.specs.Lru.{lru_victim, lru_choice}
use Rattle.victim.specs.Rules.{choice_of}
use Rattle.batch.specs.Batch.{batch_of, cleaned, pages_of}
use Rattle.tally.specs.Tally.{numbers_of, zero_tally, counted_by}
use Rattle.effect.specs.Record.{hit_of, leaving_of, eviction_of, miss_of, reference_of, record_of}
use Rattle.replay.specs.Replay.{Played, replay_to, replay_of}
use Rattle.rename.specs.Renamed.{renamed_pool, renamed_bytes}
use Rattle.rename.specs.Sameness.{resident_pages, Renames, Given}
use Rattle.rename.specs.Needed.{pool, trace, merging, DemandApart}

bytes_trace : trace_of (encode trace) ≡ trace
unfolding trace_of trace_at settings_at encode header_bytes settings_bytes record_bytes
bytes_trace = refl

merged_trace : trace_of (renamed_bytes merging High (encode trace)) ≡ trace_from one_frame High (1 ∷ []) (0 ∷ [])
unfolding trace_of trace_at settings_at encode header_bytes settings_bytes record_bytes
merged_trace = refl

pool_sound : sound_pool pool ≡ true
unfolding sound_pool sound_log every_below in_range last_epoch_of fresh_pool record_of reference_of miss_of find_page lowest_unused least_below fetched_at referred now_of put_front cleared length_with log_with
pool_sound = refl

bytes_accepted : refusal_of (encode trace) ≡ 0
unfolding refusal_of refusal_in layout_refusal content_refusal settings_at in_range encode header_bytes settings_bytes record_bytes
bytes_accepted = refl

-- both are given as the demand says
given : Given pool (encode trace)
unfolding fresh_pool record_of reference_of miss_of find_page lowest_unused least_below fetched_at referred now_of put_front cleared length_with log_with
given = record { stored = record { bytes = encode_bytes trace; frames = refl; access = refl; write = refl }; sound = pool_sound; accepted = bytes_accepted }

-- a renaming is one_to_one on one page
one_page : (x : ℕ) → Renames merging (x ∷ [])
unfolding among
one_page x = record {
  one_to_one = λ a b h k _. sym (eqb-true x a (sym (or-false (eqb x a)) ∙ h)) ∙ eqb-true x b (sym (or-false (eqb x b)) ∙ k);
  four_bytes = λ a _. omega arith;
}

pool_page : resident_pages pool.frames ≡ 1 ∷ []
unfolding resident_pages fresh_pool record_of reference_of miss_of find_page lowest_unused least_below fetched_at referred
pool_page = refl

-- a miss becomes a hit
pub counts_before : numbers_of (replay_of pool zero_tally (trace_of (encode trace))).tally ≡ 0 ∷ 1 ∷ 1 ∷ 0 ∷ 0 ∷ 0 ∷ []
unfolding counted_by replay_to record_of reference_of hit_of miss_of eviction_of leaving_of fresh_pool find_page lowest_unused least_below referred hit_at fetched_at choice_of lru_choice lru_victim batch_of cleaned pages_of
counts_before = rw bytes_trace refl

pub counts_after : numbers_of (replay_of (renamed_pool merging pool) zero_tally (trace_of (renamed_bytes merging High (encode trace)))).tally ≡ 1 ∷ 0 ∷ 0 ∷ 0 ∷ 0 ∷ 0 ∷ []
unfolding counted_by replay_to record_of reference_of hit_of miss_of fresh_pool find_page lowest_unused least_below referred hit_at fetched_at
counts_after = rw merged_trace refl

-- so that the demand does not hold with less
pub needed : DemandApart → ⊥
needed demand =
    let h = demand merging pool zero_tally (encode trace) given (rw bytes_trace (one_page 2)) (rw pool_page (one_page 1)) in
    let e = ap (λ (l : List ℕ). get_or l 0 0) (sym counts_after ∙ ap (λ (r : Played). numbers_of r.tally) (h.replayed High) ∙ counts_before) in
    omega arith

-- Only sameness of page numbers counts.
use mathlib.Core.Path.{◌≡◌, ap, ◌∙◌}
use mathlib.Core.List.{List}
use Prim.Native.Nat.{ℕ, ◌<◌}
use native.Mathlib.Omega.{arith}
use native.Mathlib.Decide.{dec_lt}
use lib.ListN.{length, get_or, length-map, get_or-eq_default}
use Rattle.word.specs.declared.Order.{Order}
use Rattle.word.proofs.Laws.{bytes_of_lem}
use Rattle.trace.specs.Layout.{Trace}
use Rattle.trace.specs.Encode.{Proper}
use Rattle.trace.specs.Check.Checked.{Accepted}
use Rattle.trace.specs.Check.{checked, trace_of, check_of}
use Rattle.trace.proofs.Whole.{proper}
use Rattle.trace.proofs.Bytes.{encode_bytes}
use Rattle.trace.proofs.Round.{trace_encode, decode_encode}
use Rattle.pool.specs.declared.Pool.{Pool}
use Rattle.pool.proofs.Sound.{told, made}
use Rattle.pool.proofs.Sizes.{Sized}
use Rattle.tally.specs.declared.Tally.{Tally}
use Rattle.replay.specs.Replay.{replay_to, replay_of}
use Rattle.rename.specs.Renamed.{renamed_pages, renamed_frame, renamed_pool, renamed_trace, renamed_bytes, renamed_played}
use Rattle.rename.specs.Sameness.{pages_together, Renames, Stored, Given, Demand}
use Rattle.rename.proofs.Pages.{trace_in_lem, pool_in_lem, renamed_at}
use Rattle.rename.proofs.Sound.{sound_renamed, pages_fit}
use Rattle.rename.proofs.Replay.{replay_renamed}

module _ (ρ : ℕ → ℕ) (p : Pool) (s : List ℕ) (given : Given p s) (names : Renames ρ (pages_together p (trace_of s))) where
  abbrev trace : Trace
  trace = trace_of s

  lengths : Sized p
  lengths = record { frames = given.stored.frames; access = given.stored.access; write = given.stored.write }

  -- the layout can hold the renamed trace
  page_fits : (i : ℕ) → get_or (renamed_pages ρ trace.pages) i 0 < 4294967296
  page_fits i = elim (dec_lt i (length trace.pages)) [
    | yes l ↦ rw (renamed_at ρ trace.pages i l) (names.four_bytes (get_or trace.pages i 0) (trace_in_lem p trace i l))
    | no l ↦ rw (get_or-eq_default (renamed_pages ρ trace.pages) 0 {n = i} (rw (length-map trace.pages ρ) (omega arith))) (omega arith)
  ]

  proper_renamed : (o : Order) → Proper (renamed_trace ρ o trace)
  proper_renamed o =
      let ok = proper s (bytes_of_lem s given.stored.bytes) given.accepted in
      let n = length-map trace.pages ρ in
      record { same = n ∙ ok.same; few = rw n ok.few; known = ok.known; range = ok.range; seed = ok.seed; page = page_fits }

  -- it is read back as it was written
  pub read_back : (o : Order) → trace_of (renamed_bytes ρ o s) ≡ renamed_trace ρ o trace
  read_back o = trace_encode (renamed_trace ρ o trace) (proper_renamed o)

  accepted_renamed : (o : Order) → check_of (renamed_bytes ρ o s) ≡ Accepted (record { settings = trace.settings; order = o; count = length trace.pages })
  unfolding check_of
  accepted_renamed o =
      ap checked (decode_encode (renamed_trace ρ o trace) (proper_renamed o))
      ∙ ap (λ (n : ℕ). Accepted (record { settings = trace.settings; order = o; count = n })) (length-map trace.pages ρ)

  replayed_renamed : (t : Tally) (o : Order) → replay_of (renamed_pool ρ p) t (trace_of (renamed_bytes ρ o s)) ≡ renamed_played ρ (replay_of p t trace)
  replayed_renamed t o =
      ap (λ (u : Trace). replay_of (renamed_pool ρ p) t u) (read_back o)
      ∙ ap (replay_to (renamed_pool ρ p) t (renamed_trace ρ o trace)) (length-map trace.pages ρ)
      ∙ replay_renamed ρ (pages_together p trace) names p (told p given.sound) lengths (pool_in_lem p trace) t trace (trace_in_lem p trace) o

  stored_renamed : (o : Order) → Stored (renamed_pool ρ p) (renamed_bytes ρ o s)
  stored_renamed o = record {
    bytes = encode_bytes (renamed_trace ρ o trace);
    frames = length-map p.frames (renamed_frame ρ) ∙ given.stored.frames;
    access = given.stored.access;
    write = given.stored.write;
  }

-- the theorem
pub only_sameness : Demand
only_sameness ρ p t s given names =
    let sound = told p given.sound in
    let listed = pool_in_lem p (trace_of s) in
    let pages = pages_together p (trace_of s) in record {
      sound = made (renamed_pool ρ p) (sound_renamed ρ pages names p sound listed);
      pages = pages_fit ρ pages names p sound listed;
      stored = stored_renamed ρ p s given names;
      accepted = accepted_renamed ρ p s given names;
      read = read_back ρ p s given names;
      replayed = replayed_renamed ρ p s given names t;
    }

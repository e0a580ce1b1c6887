-- What the calls store and return for the renamed pool and bytes, from their contracts.
use mathlib.Core.Path.{◌≡◌, refl, ap, sym, ◌∙◌}
use mathlib.Core.Bool.{Bool, ◌&&◌}
use mathlib.Core.List.{List}
use Prim.Native.Nat.{ℕ, zero, suc, ◌+◌, ◌*◌}
use lib.ListN.{length, length-map}
use lib.Dec.{leb}
use Rattle.word.specs.declared.Order.{Order}
use Rattle.settings.specs.Settings.{same_settings}
use Rattle.trace.specs.Layout.{Trace, writes_in}
use Rattle.trace.specs.Check.{refusal_of, trace_of}
use Rattle.trace.proofs.Accept.{accepted}
use Rattle.pool.specs.declared.Pool.{Pool}
use Rattle.tally.specs.declared.Tally.{Tally}
use Rattle.tally.specs.Tally.{tally_within}
use Rattle.effect.specs.Record.{dirty_in}
use Rattle.replay.specs.declared.Ended.{Ended}
use Rattle.replay.specs.Replay.{Played, replay_of}
use Rattle.replay.specs.Calls.{may_begin, counts_refusal, room_for, replay_refusal, ended_of, counts_of, ReplayInto}
use Rattle.rename.specs.Renamed.{renamed_pool, renamed_bytes, renamed_played, renamed_ended}
use Rattle.rename.specs.Sameness.{pages_together, Renames, Given, OnlySameness}
use Rattle.rename.specs.Calls.{ReplayRenamed, ReplayDemand, CountsDemand}
use Rattle.rename.proofs.Sound.{dirty_renamed}
use Rattle.rename.proofs.Sameness.{only_sameness}

-- where a call ends, by its refusal
ended_renamed : (ρ : ℕ → ℕ) (n : ℕ) (p : Pool) (t : Tally) (r : Played) → ended_of n (renamed_pool ρ p) t (renamed_played ρ r) ≡ renamed_ended ρ (ended_of n p t r)
ended_renamed ρ zero p t r = refl
ended_renamed ρ (suc n) p t r = refl

module _ (ρ : ℕ → ℕ) (p : Pool) (t : Tally) (s : List ℕ) (given : Given p s) (names : Renames ρ (pages_together p (trace_of s))) (o : Order) where
  abbrev renamed : List ℕ
  renamed = renamed_bytes ρ o s

  abbrev played : Played
  played = replay_of p t (trace_of s)

  renames : OnlySameness ρ p t s
  renames = only_sameness ρ p t s given names

  -- the same refusals
  begins_renamed : may_begin (renamed_pool ρ p) t ≡ may_begin p t
  unfolding may_begin
  begins_renamed = ap (λ (b : Bool). b && tally_within t) (renames.sound ∙ sym given.sound)

  refusal_renamed : refusal_of renamed ≡ refusal_of s
  refusal_renamed = (accepted renamed _ (renames.accepted o)).0 ∙ sym given.accepted

  settings_renamed : same_settings (trace_of renamed).settings p.settings ≡ same_settings (trace_of s).settings p.settings
  settings_renamed = ap (λ (u : Trace). same_settings u.settings p.settings) (renames.read o)

  counts_refused : counts_refusal (renamed_pool ρ p) t renamed ≡ counts_refusal p t s
  unfolding counts_refusal
  counts_refused = rw (begins_renamed, refusal_renamed, settings_renamed)

  room_renamed : (rows places : ℕ) → room_for (renamed_pool ρ p) (trace_of renamed) rows places ≡ room_for p (trace_of s) rows places
  room_renamed rows places =
      ap (λ (u : Trace). room_for (renamed_pool ρ p) u rows places) (renames.read o)
      ∙ ap (λ (n : ℕ). leb (4 * n) rows && leb (writes_in (trace_of s).kinds + dirty_in (renamed_pool ρ p).frames) places) (length-map (trace_of s).pages ρ)
      ∙ ap (λ (n : ℕ). leb (4 * length (trace_of s).pages) rows && leb (writes_in (trace_of s).kinds + n) places) (dirty_renamed ρ p.frames)

  replay_refused : (rows places : ℕ) → replay_refusal (renamed_pool ρ p) t renamed rows places ≡ replay_refusal p t s rows places
  unfolding replay_refusal
  replay_refused rows places = rw (counts_refused, room_renamed rows places)

  counts_renamed : counts_of (renamed_pool ρ p) t renamed ≡ renamed_ended ρ (counts_of p t s)
  unfolding counts_of
  counts_renamed = rw (counts_refused, renames.replayed o) (ended_renamed ρ (counts_refusal p t s) p t played)

  replays_renamed : (rows written : List ℕ) (r : Ended) (rows' written' : List ℕ) → ReplayInto (renamed_pool ρ p) t renamed rows written r rows' written' → ReplayRenamed ρ p t s rows written r rows' written'
  replays_renamed rows written r rows' written' x =
      let e = replay_refused (length rows) (length written) in
      let h = renames.replayed o in
      let n = replay_refusal p t s (length rows) (length written) in record {
        answers = x.answers ∙ rw (e, h) (ended_renamed ρ n p t played);
        rows_hold = x.rows_hold ∙ rw (e, h);
        written_hold = x.written_hold ∙ rw (e, h);
      }

pub replay_alike : ReplayDemand
replay_alike = replays_renamed

pub counts_alike : CountsDemand
counts_alike = counts_renamed

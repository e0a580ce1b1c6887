-- The calls, over variables: which refusal, and what follows from it.
use mathlib.Core.Path.{◌≡◌, refl, ap, sym, ◌∙◌}
use mathlib.Core.Bool.{true, false}
use mathlib.Core.List.{List}
use Prim.Native.Nat.{ℕ, zero, suc}
use lib.ListN.{length}
use Rattle.refusal.specs.Refusals.{demand, no_room, not_sound, other_settings}
use Rattle.refusal.proofs.Laws.{or_first}
use Rattle.settings.specs.declared.Settings.{Settings}
use Rattle.settings.specs.Settings.{same_settings}
use Rattle.trace.specs.declared.Summary.{Summary}
use Rattle.trace.specs.Check.Checked.{Accepted, Refused}
use Rattle.trace.specs.Check.{check_of, trace_of}
use Rattle.trace.proofs.Accept.{accepted, refused_is}
use Rattle.pool.specs.declared.Pool.{Pool}
use Rattle.tally.specs.declared.Tally.{Tally}
use Rattle.replay.specs.declared.Ended.{Ended}
use Rattle.replay.specs.Replay.{replay_of}
use Rattle.replay.specs.Calls.{may_begin, room_for, counts_refusal, replay_refusal, ended_as, ended_of, counts_of, ReplayInto}
use Rattle.replay.specs.ForCode.{RanInto}

-- what the checker told of an accepted trace
pub settings_of_lem : (s : List ℕ) (h : Summary) (x : Settings) → check_of s ≡ Accepted h → same_settings h.settings x ≡ same_settings (trace_of s).settings x
settings_of_lem s h x e = ap (λ (y : Summary). same_settings y.settings x) (accepted s h e).1

pub count_of : (s : List ℕ) (h : Summary) → check_of s ≡ Accepted h → h.count ≡ length (trace_of s).pages
count_of s h e = ap (λ (y : Summary). y.count) (accepted s h e).1

module _ (p : Pool) (t : Tally) (s : List ℕ) where
  -- the refusals of an accepted trace
  abbrev pub others : ℕ → ℕ
  others n = demand (same_settings (trace_of s).settings p.settings) other_settings n

  pub not_begun : may_begin p t ≡ false → counts_refusal p t s ≡ not_sound
  unfolding counts_refusal
  not_begun b = rw b

  pub trace_refused : (r : ℕ) → may_begin p t ≡ true → check_of s ≡ Refused r → (counts_refusal p t s ≡ r) × (r ≡ 0 → ⊥)
  unfolding counts_refusal
  trace_refused r b e =
      let f = refused_is s r e in
      (rw (b, f.0) (sym (or_first r (others 0) f.1)), f.1)

  pub trace_accepted : (h : Summary) → may_begin p t ≡ true → check_of s ≡ Accepted h → counts_refusal p t s ≡ others 0
  unfolding counts_refusal
  trace_accepted h b e = rw (b, (accepted s h e).0)

  -- replay to counts
  pub counts_refused : (r : ℕ) (e : Ended) → counts_refusal p t s ≡ r → (r ≡ 0 → ⊥) → e ≡ ended_as r p t → e ≡ counts_of p t s
  unfolding counts_of
  counts_refused r e h ne x = go r h ne x
    where
      go : (n : ℕ) → counts_refusal p t s ≡ n → (n ≡ 0 → ⊥) → e ≡ ended_as n p t → e ≡ ended_of (counts_refusal p t s) p t (replay_of p t (trace_of s))
      go zero h ne x = absurd (ne refl)
      go (suc n) h ne x = x ∙ rw h

  pub counts_done : (e : Ended) → counts_refusal p t s ≡ 0 → e ≡ ended_of 0 p t (replay_of p t (trace_of s)) → e ≡ counts_of p t s
  unfolding counts_of
  counts_done e h x = x ∙ rw h

  -- replay with rows
  module _ (rows written : List ℕ) where
    abbrev refusal : ℕ
    refusal = replay_refusal p t s (length rows) (length written)

    pub replay_first : (r : ℕ) → counts_refusal p t s ≡ r → (r ≡ 0 → ⊥) → refusal ≡ r
    unfolding replay_refusal
    replay_first r h ne = rw h (sym (or_first r (demand (room_for p (trace_of s) (length rows) (length written)) no_room 0) ne))

    pub replay_roomless : counts_refusal p t s ≡ 0 → room_for p (trace_of s) (length rows) (length written) ≡ false → refusal ≡ no_room
    unfolding replay_refusal
    replay_roomless h r = rw (h, r)

    pub replay_fits : counts_refusal p t s ≡ 0 → room_for p (trace_of s) (length rows) (length written) ≡ true → refusal ≡ 0
    unfolding replay_refusal
    replay_fits h r = rw (h, r)

    pub replay_refused : (r : ℕ) (e : Ended) → refusal ≡ r → (r ≡ 0 → ⊥) → e ≡ ended_as r p t → ReplayInto p t s rows written e rows written
    replay_refused r e h ne x = go r h ne x
      where
        go : (n : ℕ) → refusal ≡ n → (n ≡ 0 → ⊥) → e ≡ ended_as n p t → ReplayInto p t s rows written e rows written
        go zero h ne x = absurd (ne refl)
        go (suc n) h ne x = record { answers = x ∙ rw h; rows_hold = rw h; written_hold = rw h }

    pub replay_done : (e : Ended) (rows' written' : List ℕ) → refusal ≡ 0 → RanInto p t s rows written e rows' written' → ReplayInto p t s rows written e rows' written'
    replay_done e rows' written' h x = record { answers = x.answers ∙ rw h; rows_hold = x.rows_hold ∙ rw h; written_hold = x.written_hold ∙ rw h }

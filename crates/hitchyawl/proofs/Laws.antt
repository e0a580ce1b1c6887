-- What is saved: a replay that is not refused leaves a sound pool, and its image has room in the longest one's. What is
-- drawn: the own frames are within the curve. What is said of the curve: it never rises.
use mathlib.Core.Path.{◌≡◌, refl, ap, sym, subst, ◌∙◌}
use mathlib.Core.Bool.{true}
use mathlib.Core.List.{List}
use Prim.Native.Nat.{ℕ, zero, suc, ◌≤◌}
use native.Mathlib.Omega.{arith}
use lib.ListN.{length}
use lib.Seq.{sets}
use Rattle.word.specs.declared.Order.{Order}
use Rattle.refusal.specs.Refusals.{demand, or_else, not_sound, other_settings}
use Rattle.refusal.proofs.Laws.{met}
use Rattle.settings.specs.Settings.{same_settings}
use Rattle.settings.proofs.Laws.{ranges}
use Rattle.trace.specs.declared.Summary.{Summary}
use Rattle.trace.specs.Check.{refusal_of, trace_of, Promised}
use Rattle.pool.specs.declared.Pool.{Pool}
use Rattle.pool.specs.Sound.{sound_pool}
use Rattle.pool.proofs.Sound.{told, made}
use Rattle.pool.proofs.Sizes.{Sized}
use Rattle.image.specs.Layout.{image_length, used_in, encode_pool}
use Rattle.image.specs.Image.{SavedTo}
use Rattle.image.proofs.Undo.{save_granted}
use Rattle.tally.specs.declared.Tally.{Tally}
use Rattle.replay.specs.declared.Ended.{Ended}
use Rattle.replay.specs.Replay.{Played, replay_of}
use Rattle.replay.specs.Calls.{may_begin, counts_refusal, ended_of, counts_of}
use Rattle.replay.proofs.Begins.{begins_sound, begins_within}
use Rattle.replay.proofs.Going.{going}
use Rattle.curve.specs.Curve.{NeverRises, CurveInto}
use Rattle.curve.proofs.Called.{never_rises}

pub stored_whole : (p : Pool) (o : Order) (out : List ℕ) (r : ℕ) (out' : List ℕ) → sound_pool p ≡ true → used_in p ≤ 128 → image_length 128 ≤ length out → SavedTo p o out r out' → out' ≡ sets out 0 (encode_pool o p)
stored_whole p o out r out' ok few long x = x.bytes_hold ∙ rw (save_granted p (length out) ok (omega arith))

module _ (p : Pool) (t : Tally) (s : List ℕ) where
  number_is : (r : ℕ) (q : Played) → (ended_of r p t q).refusal ≡ r
  number_is zero q = refl
  number_is (suc r) q = refl

  begins : counts_refusal p t s ≡ 0 → may_begin p t ≡ true
  unfolding counts_refusal
  begins n = (met (may_begin p t) not_sound (or_else (refusal_of s) (demand (same_settings (trace_of s).settings p.settings) other_settings 0)) (omega arith) n).0

  end_sound : Sized p → may_begin p t ≡ true → sound_pool (replay_of p t (trace_of s)).pool ≡ true
  end_sound z b = made (replay_of p t (trace_of s)).pool (going p t (trace_of s) (told p (begins_sound p t b)) z (begins_within p t b) (length (trace_of s).pages)).sound

  pub left_sound : (e : Ended) → Sized p → e ≡ counts_of p t s → e.refusal ≡ 0 → sound_pool e.pool ≡ true
  unfolding counts_of
  left_sound e z x n =
      let none : counts_refusal p t s ≡ 0 = sym (number_is (counts_refusal p t s) (replay_of p t (trace_of s))) ∙ sym (ap (λ (v : Ended). v.refusal) x) ∙ n in
      let end : e ≡ ended_of 0 p t (replay_of p t (trace_of s)) = x ∙ rw none in
      subst (λ (v : Ended). sound_pool v.pool ≡ true) (sym end) (end_sound z (begins none))

-- an accepted trace's own frames, which are drawn
pub own_frames : (s : List ℕ) (h : Summary) → Promised s h → (1 ≤ h.settings.frames) × (h.settings.frames ≤ 128)
own_frames s h p = rw p.summary (ranges (trace_of s).settings p.holds.range).frames

-- a curve that was not refused
pub answered_falls : (s list list' : List ℕ) (r : ℕ) → CurveInto s list r list' → r ≡ 0 → NeverRises list'
answered_falls s list list' r c e = never_rises s list list' (subst (λ (n : ℕ). CurveInto s list n list') e c)

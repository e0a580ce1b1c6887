-- The pool that a listing starts from; and its lists are long enough for any trace, so its answer is that of a replay to counts.
use Rattle.std.proofs.Common.{◌≡◌, ℕ, zero, suc, ◌+◌, ◌*◌, Bool, true, false, leb, List, length, sym, refl, ap, ◌∙◌, arith, le-leb}
use mathlib.Core.Bool.{and-eq-true_iff}
use Rattle.refusal.specs.Refusals.{demand, or_else, no_room}
use Rattle.refusal.proofs.Laws.{or_first}
use Rattle.settings.specs.declared.Settings.{Settings}
use Rattle.settings.specs.Settings.{in_range, one_frame}
use Rattle.trace.specs.declared.Summary.{Summary}
use Rattle.trace.specs.Check.Checked.{Accepted, Refused}
use Rattle.trace.specs.Layout.{record_limit, writes_in}
use Rattle.trace.specs.Check.{check_of, trace_of, Checked}
use Rattle.trace.proofs.Lists.{writes_le}
use Rattle.trace.proofs.Accept.{accepted_few, counts_are}
use Rattle.pool.specs.declared.Pool.{Pool}
use Rattle.pool.specs.Pool.{frame_room, fresh_of}
use Rattle.tally.specs.declared.Tally.{Tally}
use Rattle.effect.specs.Record.{dirty_in}
use Rattle.replay.specs.declared.Ended.{Ended}
use Rattle.replay.specs.Replay.{replay_of}
use Rattle.replay.specs.Calls.{may_begin, room_for, counts_refusal, replay_refusal, ended_of, counts_of}
use Rattle.replay.proofs.Calling.{not_begun, trace_refused}
use Rattle.replay.proofs.Counting.{dirty_few}
use Rattle.listing.specs.Fresh.{fresh_for}

-- the pool by what the checker said
pub fresh_accepted : (c : Checked) (h : Summary) (p : Pool) → c ≡ Accepted h → p ≡ (fresh_of h.settings).pool → p ≡ fresh_for c
unfolding fresh_for
fresh_accepted c h p e x = x ∙ sym (rw e)

pub fresh_refused : (c : Checked) (r : ℕ) (y : Settings) (p : Pool) → c ≡ Refused r → y ≡ one_frame → p ≡ (fresh_of y).pool → p ≡ fresh_for c
unfolding fresh_for fresh_of in_range
fresh_refused c r y p e z x = x ∙ rw (z, e)

-- the places of the two lists
abbrev pub row_places : ℕ
row_places = 4 * record_limit

abbrev pub written_places : ℕ
written_places = record_limit + frame_room

module _ (p : Pool) (t : Tally) (s : List ℕ) where
  abbrev roomy : Bool
  roomy = room_for p (trace_of s) row_places written_places

  room_enough : (h : Summary) → check_of s ≡ Accepted h → roomy ≡ true
  room_enough h e =
      let n = counts_are s h e in
      let few = accepted_few s h e in
      let w = writes_le (trace_of s).kinds in
      let d = dirty_few p.frames in
      let rows = 4 * length (trace_of s).pages in
      let written = writes_in (trace_of s).kinds + dirty_in p.frames in
      (and-eq-true_iff (leb rows row_places) (leb written written_places)).1 (le-leb rows row_places (omega arith), le-leb written written_places (omega arith))

  or_none : (n : ℕ) → or_else n 0 ≡ n
  or_none zero = refl
  or_none (suc n) = refl

  refused : (r : ℕ) → check_of s ≡ Refused r → counts_refusal p t s ≡ 0 → ⊥
  refused r e = go (may_begin p t) refl
    where
      go : (b : Bool) → may_begin p t ≡ b → counts_refusal p t s ≡ 0 → ⊥
      go false b z = let f = not_begun p t s b in omega arith
      go true b z = let f = trace_refused p t s r b e in f.1 (sym f.0 ∙ z)

  same : replay_refusal p t s row_places written_places ≡ counts_refusal p t s
  unfolding replay_refusal
  same = go (check_of s) refl
    where
      go : (c : Checked) → check_of s ≡ c → or_else (counts_refusal p t s) (demand roomy no_room 0) ≡ counts_refusal p t s
      go (Accepted h) e = ap (λ (b : Bool). or_else (counts_refusal p t s) (demand b no_room 0)) (room_enough h e) ∙ or_none (counts_refusal p t s)
      go (Refused r) e = sym (or_first (counts_refusal p t s) (demand roomy no_room 0) (refused r e))

  pub listed : (rows written : ℕ) (e : Ended) → rows ≡ row_places → written ≡ written_places → e ≡ ended_of (replay_refusal p t s rows written) p t (replay_of p t (trace_of s)) → e ≡ counts_of p t s
  unfolding counts_of
  listed rows written e m n x = x ∙ rw (m, n, same)

-- The pool is carried over midnight.
use mathlib.Core.Path.{◌≡◌, refl, ap, sym, subst, ◌∙◌}
use mathlib.Core.List.{List}
use Prim.Native.Nat.{ℕ, zero, suc}
use native.Mathlib.Omega.{arith}
use Rattle.word.specs.declared.Order.{Order}
use Rattle.word.proofs.Laws.{bytes_of_lem}
use Rattle.refusal.specs.Refusals.{demand, or_else, not_sound, other_settings}
use Rattle.refusal.proofs.Laws.{met, neither}
use Rattle.settings.specs.Settings.{same_settings}
use Rattle.trace.specs.Layout.{Trace}
use Rattle.trace.specs.Check.{refusal_of, trace_of}
use Rattle.trace.proofs.Whole.{proper}
use Rattle.pool.specs.declared.Pool.{Pool}
use Rattle.pool.specs.Pool.{Opened}
use Rattle.image.specs.Image.{SavedTo, Typed}
use Rattle.image.proofs.Undo.{save_read}
use Rattle.tally.specs.declared.Tally.{Tally}
use Rattle.replay.specs.declared.Ended.{Ended}
use Rattle.replay.specs.Replay.{replay_of, joined, gone_on}
use Rattle.replay.specs.Calls.{may_begin, counts_refusal, ended_of, counts_of}
use Rattle.replay.proofs.Joined.{joined_replay}
use Rattle.rename.specs.Sameness.{AreBytes}
use Rattle.demands.specs.Carried.{reloaded, ServesAs, Carried}

serves_itself : (p : Pool) → ServesAs p p
serves_itself p = record {
  played = λ t trace. refl;
  step = λ t page kind list r list'. (λ x. x, λ x. x);
  replay = λ t s rows written r rows' written'. (λ x. x, λ x. x);
  counts = λ t s. refl;
}

module _ (p : Pool) (o : Order) (out out' : List ℕ) (ty : Typed p) (x : SavedTo p o out 0 out') where
  same_pool : reloaded p out' ≡ p
  same_pool = ap (λ (a : Opened). a.pool) (save_read p o out out' ty x)

  serves : ServesAs (reloaded p out') p
  serves = subst (λ (q : Pool). ServesAs q p) (sym same_pool) (serves_itself p)

-- a replay to counts that is not refused: the trace is accepted, and pool and tally are the replay's
counted : (p : Pool) (t : Tally) (s : List ℕ) (e : Ended) → e ≡ counts_of p t s → e.refusal ≡ 0
    → (refusal_of s ≡ 0) × (e.pool ≡ (replay_of p t (trace_of s)).pool) × (e.tally ≡ (replay_of p t (trace_of s)).tally)
unfolding counts_of counts_refusal
counted p t s e h z = go (counts_refusal p t s) refl
  where
    go : (r : ℕ) → counts_refusal p t s ≡ r → (refusal_of s ≡ 0) × (e.pool ≡ (replay_of p t (trace_of s)).pool) × (e.tally ≡ (replay_of p t (trace_of s)).tally)
    go zero c =
        let other = demand (same_settings (trace_of s).settings p.settings) other_settings 0 in
        let m = met (may_begin p t) not_sound (or_else (refusal_of s) other) (omega arith) c in
        let f : e ≡ ended_of 0 p t (replay_of p t (trace_of s)) = h ∙ ap (λ (r : ℕ). ended_of r p t (replay_of p t (trace_of s))) c in
        ((neither (refusal_of s) other m.1).0, ap (λ (q : Ended). q.pool) f, ap (λ (q : Ended). q.tally) f)
    go (suc r) c =
        let f : e.refusal ≡ suc r = ap (λ (q : Ended). q.refusal) h ∙ ap (λ (r : ℕ). (ended_of r p t (replay_of p t (trace_of s))).refusal) c in
        absurd (omega arith)

over_midnight : (p : Pool) (t : Tally) (monday : List ℕ) (e : Ended) → AreBytes monday → e ≡ counts_of p t monday → e.refusal ≡ 0
    → (o : Order) (out out' : List ℕ) → Typed e.pool → SavedTo e.pool o out 0 out' → (tuesday : Trace)
    → gone_on (replay_of p t (trace_of monday)) (replay_of (reloaded e.pool out') e.tally tuesday) ≡ replay_of p t (joined (trace_of monday) tuesday)
over_midnight p t monday e bytes h z o out out' ty x tuesday =
    let c = counted p t monday e h z in
    let a = trace_of monday in
    let same = (proper monday (bytes_of_lem monday bytes) c.0).same in
    ap (λ (q : Pool). gone_on (replay_of p t a) (replay_of q e.tally tuesday)) (same_pool e.pool o out out' ty x ∙ c.1)
    ∙ ap (λ (k : Tally). gone_on (replay_of p t a) (replay_of (replay_of p t a).pool k tuesday)) c.2
    ∙ sym (joined_replay a tuesday same p t)

-- the theorem
pub carried : Carried
carried = record { serves = serves; goes_on = λ p t a b same. joined_replay a b same p t; over_midnight = over_midnight }

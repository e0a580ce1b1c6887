-- Replay to counts from a fresh pool: it is not refused, and gives the counts.
use mathlib.Core.Path.{◌≡◌, refl, ap, sym, ◌∙◌}
use mathlib.Core.Bool.{true}
use mathlib.Core.List.{List}
use Prim.Native.Nat.{ℕ}
use lib.ListN.{length}
use Rattle.settings.specs.declared.Settings.{Settings}
use Rattle.settings.specs.Settings.{in_range}
use Rattle.trace.specs.declared.Summary.{Summary}
use Rattle.trace.specs.Check.Checked.{Accepted}
use Rattle.trace.specs.Check.{check_of, trace_of}
use Rattle.trace.proofs.Accept.{accepted, accepted_range, counts_are}
use Rattle.pool.specs.declared.Pool.{Pool}
use Rattle.pool.specs.Pool.{Opened, opened, fresh_pool, fresh_of}
use Rattle.pool.specs.Sound.{sound_pool}
use Rattle.pool.proofs.Laws.{fresh_whole}
use Rattle.pool.proofs.Opening.{fresh_sound}
use Rattle.tally.specs.declared.Tally.{Tally}
use Rattle.tally.specs.Tally.{zero_tally, tally_within}
use Rattle.replay.specs.declared.Ended.{Ended}
use Rattle.replay.specs.Replay.{Played, replay_to, replay_of}
use Rattle.replay.specs.Calls.{may_begin, ended_of}
use Rattle.replay.specs.ForCode.{Ready}
use Rattle.replay.proofs.Laws.{replay_none}
use Rattle.fresh.specs.Fresh.{fresh_counts}

-- a fresh pool by settings in range
fresh_pool_lem : (x : Settings) → in_range x ≡ true → (fresh_of x).pool ≡ fresh_pool x
unfolding fresh_of
fresh_pool_lem x r = rw r

zero_within : tally_within zero_tally ≡ true
unfolding tally_within
zero_within = refl

may_begin_lem : (x : Settings) → in_range x ≡ true → may_begin (fresh_pool x) zero_tally ≡ true
unfolding may_begin
may_begin_lem x r = let s : sound_pool (fresh_pool x) ≡ true = rw (fresh_pool_lem x r) at (fresh_sound x) in rw (s, zero_within)

-- an accepted trace may be replayed from a pool with no frame in use, by its own settings
module _ (s : List ℕ) (h : Summary) (p : Pool) (t : Tally) (a : check_of s ≡ Accepted h) (x : p ≡ fresh_pool h.settings) (y : t ≡ zero_tally) where
  own_pool : p ≡ fresh_pool (trace_of s).settings
  own_pool = x ∙ ap (λ (v : Summary). fresh_pool v.settings) (accepted s h a).1

  pub empty_ready : Ready p t s h
  empty_ready = record { begins = rw (own_pool, y) (may_begin_lem (trace_of s).settings (accepted_range s h a)); accepted = a }

  pub empty_counts_are : (e : Ended) → e ≡ ended_of 0 p t (replay_of p t (trace_of s)) → e.tally ≡ fresh_counts (trace_of s)
  unfolding fresh_counts
  empty_counts_are e z = ap (λ (v : Ended). v.tally) z ∙ rw (own_pool, y)

own_range : (s : List ℕ) (h : Summary) → check_of s ≡ Accepted h → in_range h.settings ≡ true
own_range s h a = let e = ap (λ (v : Summary). v.settings) (accepted s h a).1 in rw (e) (accepted_range s h a)

-- such a pool is what a fresh pool by these settings is opened as
pub empty_opened : (s : List ℕ) (h : Summary) (p : Pool) → check_of s ≡ Accepted h → p ≡ fresh_pool h.settings → opened 0 p ≡ fresh_of h.settings
empty_opened s h p a = fresh_whole h.settings p (own_range s h a)

-- and from what a fresh pool by its settings is, as it is opened
module _ (s : List ℕ) (h : Summary) (o : Opened) (t : Tally) (a : check_of s ≡ Accepted h) (x : o ≡ fresh_of h.settings) (y : t ≡ zero_tally) where
  opened_pool : o.pool ≡ fresh_pool h.settings
  opened_pool = ap (λ (v : Opened). v.pool) x ∙ fresh_pool_lem h.settings (own_range s h a)

  pub fresh_ready : Ready o.pool t s h
  fresh_ready = empty_ready s h o.pool t a opened_pool y

  pub fresh_counts_are : (e : Ended) → e ≡ ended_of 0 o.pool t (replay_of o.pool t (trace_of s)) → e.tally ≡ fresh_counts (trace_of s)
  fresh_counts_are = empty_counts_are s h o.pool t a opened_pool y

-- with no record every count is 0
pub none_counted : (s : List ℕ) (h : Summary) (t : Tally) → check_of s ≡ Accepted h → h.count ≡ 0 → t ≡ zero_tally → t ≡ fresh_counts (trace_of s)
unfolding fresh_counts
none_counted s h t a e y =
    let p = fresh_pool (trace_of s).settings in
    let n : length (trace_of s).pages ≡ 0 = (counts_are s h a).0 ∙ e in
    y ∙ sym (ap (λ (k : ℕ). (replay_to p zero_tally (trace_of s) k).tally) n ∙ ap (λ (r : Played). r.tally) (replay_none p zero_tally (trace_of s)))

-- A replay of two traces' records is the first's replay, gone on with.
use mathlib.Core.Path.{◌≡◌, ap, sym, ◌∙◌}
use mathlib.Core.List.{[], ◌∷◌, append_assoc, append-nil}
use Prim.Native.Nat.{ℕ, zero, suc, ◌+◌, ◌≤◌, ◌<◌}
use native.Mathlib.Omega.{arith}
use lib.ListN.{length, length-append, get_or-append}
use lib.Seq.{get_or-append-add}
use Rattle.trace.specs.Layout.{Trace, record_in}
use Rattle.trace.specs.declared.Record.{Record}
use Rattle.pool.specs.declared.Pool.{Pool}
use Rattle.tally.specs.declared.Tally.{Tally}
use Rattle.effect.specs.Record.{record_of}
use Rattle.replay.specs.Replay.{Played, after, replay_to, replay_of, joined, gone_on}
use Rattle.replay.proofs.Laws.{replay_none, replay_suc}

module _ (a b : Trace) (same : length a.pages ≡ length a.kinds) where
  -- the records of the first, then those of the second
  record_first : (i : ℕ) → i < length a.pages → record_in (joined a b) i ≡ record_in a i
  record_first i l = rw (get_or-append a.pages b.pages 0 i l, get_or-append a.kinds b.kinds 0 i (omega arith))

  record_second : (i : ℕ) → record_in (joined a b) (length a.pages + i) ≡ record_in b i
  record_second i = rw (get_or-append-add a.pages b.pages i 0, same, get_or-append-add a.kinds b.kinds i 0)

  module _ (p : Pool) (t : Tally) where
    -- what record r makes of a replay
    abbrev on : Played → Record → Played
    on q r = after q (record_of q.pool r.page r.kind)

    first : (n : ℕ) → n ≤ length a.pages → replay_to p t (joined a b) n ≡ replay_to p t a n
    first zero l = replay_none p t (joined a b) ∙ sym (replay_none p t a)
    first (suc n) l =
        replay_suc p t (joined a b) n
        ∙ ap (λ (q : Played). on q (record_in (joined a b) n)) (first n (omega arith))
        ∙ ap (on (replay_to p t a n)) (record_first n (omega arith))
        ∙ sym (replay_suc p t a n)

    abbrev monday : Played
    monday = replay_of p t a

    abbrev tuesday : ℕ → Played
    tuesday n = replay_to monday.pool monday.tally b n

    further : (q : Played) (r : Record) → gone_on monday (on q r) ≡ on (gone_on monday q) r
    further q r =
        let d = record_of q.pool r.page r.kind in
        rw (← append_assoc monday.rows q.rows (d.row ∷ []), ← append_assoc monday.written q.written d.written)

    second : (n : ℕ) → replay_to p t (joined a b) (length a.pages + n) ≡ gone_on monday (tuesday n)
    second zero =
        let e : length a.pages + 0 ≡ length a.pages = omega arith in
        ap (replay_to p t (joined a b)) e ∙ first (length a.pages) (omega arith)
        ∙ rw (replay_none monday.pool monday.tally b, append-nil monday.rows, append-nil monday.written)
    second (suc n) =
        let e : length a.pages + suc n ≡ suc (length a.pages + n) = omega arith in
        ap (replay_to p t (joined a b)) e
        ∙ replay_suc p t (joined a b) (length a.pages + n)
        ∙ ap (λ (q : Played). on q (record_in (joined a b) (length a.pages + n))) (second n)
        ∙ ap (on (gone_on monday (tuesday n))) (record_second n)
        ∙ sym (further (tuesday n) (record_in b n))
        ∙ ap (gone_on monday) (sym (replay_suc monday.pool monday.tally b n))

    pub joined_replay : replay_of p t (joined a b) ≡ gone_on (replay_of p t a) (replay_of (replay_of p t a).pool (replay_of p t a).tally b)
    joined_replay = ap (replay_to p t (joined a b)) (length-append a.pages b.pages) ∙ second (length b.pages)

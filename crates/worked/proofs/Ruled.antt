-- Wrong replays that the contract rules out, tried on the printed example: a fresh pool of its settings, its bytes, and lists with room.
use mathlib.Core.Path.{◌≡◌, refl, ap, sym, ◌∙◌}
use mathlib.Core.Bool.{true}
use mathlib.Core.List.{List, [], ◌∷◌}
use Prim.Native.Nat.{ℕ, zero, suc, ◌≤◌, ◌<◌}
use native.Mathlib.Omega.{arith}
use lib.ListN.{length, get_or}
use lib.Seq.{sets}
use borrow.Author.Tests.{le-leb}
use Rattle.search.specs.Search.{every_below, count_below}
use Rattle.settings.specs.Settings.{in_range, same_settings, settings_bytes, settings_at}
use Rattle.trace.specs.Layout.{Trace, trace_at}
use Rattle.trace.specs.Encode.{header_bytes, record_bytes, encode}
use Rattle.trace.specs.Check.{layout_refusal, content_refusal, refusal_in, refusal_of, trace_of}
use Rattle.pool.specs.declared.Pool.{Pool}
use Rattle.pool.specs.Pool.{fresh_pool, last_epoch_of}
use Rattle.pool.specs.Sound.{sound_log, sound_pool}
use Rattle.tally.specs.declared.Row.{Row}
use Rattle.tally.specs.Rows.{row, hit}
use Rattle.tally.specs.Tally.{numbers_of, zero_tally, tally_within}
use Rattle.effect.specs.Record.{dirty_in}
use Rattle.replay.specs.declared.Ended.{Ended}
use Rattle.replay.specs.Replay.{replay_of}
use Rattle.replay.specs.Calls.{may_begin, counts_refusal, replay_refusal, ended_of, ReplayInto}
use Rattle.worked.specs.Records.{lru, traced, replayed}
use Rattle.worked.proofs.Replacement.{printed, printed_rows, printed_rows_lem, printed_tally, printed_k}
use Rattle.worked.specs.Rows.{row_in}
use Rattle.worked.proofs.Settled.{returns_refusal, ran, each_row}

-- a fresh pool of LRU, f 2, batch 1
abbrev pub fresh : Pool
fresh = fresh_pool (lru 2 1)

-- the bytes of the printed example
abbrev pub bytes : List ℕ
bytes = encode (traced (lru 2 1) printed)

bytes_trace : trace_of bytes ≡ traced (lru 2 1) printed
unfolding trace_of trace_at settings_at encode header_bytes settings_bytes record_bytes
bytes_trace = refl

bytes_accepted : refusal_of bytes ≡ 0
unfolding refusal_of refusal_in layout_refusal content_refusal settings_at in_range encode header_bytes settings_bytes record_bytes
bytes_accepted = refl

fresh_begins : may_begin fresh zero_tally ≡ true
unfolding may_begin sound_pool sound_log every_below in_range last_epoch_of fresh_pool tally_within
fresh_begins = refl

fresh_same : same_settings (traced (lru 2 1) printed).settings fresh.settings ≡ true
unfolding same_settings fresh_pool
fresh_same = refl

fresh_clean : dirty_in fresh.frames ≡ 0
unfolding dirty_in count_below fresh_pool
fresh_clean = refl

none_refused : (i : ℕ) → i < 5 → (get_or printed_rows i (row 0 0 0 0)).outcome < 100
none_refused zero l = omega arith
none_refused (suc zero) l = omega arith
none_refused (suc (suc zero)) l = omega arith
none_refused (suc (suc (suc zero))) l = omega arith
none_refused (suc (suc (suc (suc zero)))) l = omega arith
none_refused (suc (suc (suc (suc (suc i))))) l = absurd (omega arith)

module _ (rows written : List ℕ) (rows-room : 20 ≤ length rows) (written-room : 1 ≤ length written) where
  bytes_granted : replay_refusal fresh zero_tally bytes (length rows) (length written) ≡ 0
  unfolding replay_refusal counts_refusal
  bytes_granted = rw (fresh_begins, bytes_accepted, bytes_trace, fresh_same, fresh_clean, le-leb 20 (length rows) rows-room, le-leb 1 (length written) written-room)

  module _ (r : Ended) (rows' written' : List ℕ) (x : ReplayInto fresh zero_tally bytes rows written r rows' written') where
    -- the call is not refused
    pub not_refused : r.refusal ≡ 0
    not_refused = returns_refusal fresh zero_tally bytes rows written r rows' written' x ∙ bytes_granted

    -- it ends as the replay of the records does
    ended : r ≡ ended_of 0 fresh zero_tally (replayed (lru 2 1) printed)
    ended =
        (ran fresh zero_tally bytes rows written r rows' written' x not_refused).answers
        ∙ ap (λ (t : Trace). ended_of 0 fresh zero_tally (replay_of fresh zero_tally t)) bytes_trace

    -- its rows are those of the example
    pub row_is : (i : ℕ) → i < 5 → row_in rows' i ≡ get_or printed_rows i (row 0 0 0 0)
    row_is i l =
        each_row fresh zero_tally bytes rows written r rows' written' x not_refused i (row 0 0 0 0) (let n = ap (λ (t : Trace). length t.pages) bytes_trace in omega arith)
        ∙ ap (λ (t : Trace). get_or (replay_of fresh zero_tally t).rows i (row 0 0 0 0)) bytes_trace
        ∙ ap (λ (y : (List Row) × (List ℕ) × ℕ). get_or y.0 i (row 0 0 0 0)) printed_rows_lem

    -- page 8 is written, and every place beyond keeps its contents
    pub written_is : written' ≡ sets written 0 (8 ∷ [])
    written_is =
        (ran fresh zero_tally bytes rows written r rows' written' x not_refused).written_hold
        ∙ ap (λ (t : Trace). sets written 0 (replay_of fresh zero_tally t).written) bytes_trace
        ∙ ap (λ (y : (List Row) × (List ℕ) × ℕ). sets written 0 y.1) printed_rows_lem

    -- its tally is the one that is printed, and none of invented numbers
    pub tally_is : numbers_of r.tally ≡ 1 ∷ 4 ∷ 2 ∷ 1 ∷ 1 ∷ 0 ∷ []
    tally_is = ap (λ (e : Ended). numbers_of e.tally) ended ∙ printed_tally

    -- a replay that refuses everything: the call
    pub refuses_the_call : 0 < r.refusal → ⊥
    refuses_the_call h = let e = not_refused in omega arith

    -- or records, be it one
    pub refuses_a_record : (i : ℕ) → i < 5 → 100 ≤ (row_in rows' i).outcome → ⊥
    refuses_a_record i l h = let e = ap (λ (w : Row). w.outcome) (row_is i l) in let n = none_refused i l in omega arith

    -- one that calls every reference a hit
    pub calls_all_hits : ((i : ℕ) → i < 5 → (row_in rows' i).outcome ≡ hit) → ⊥
    calls_all_hits h = let e = ap (λ (w : Row). w.outcome) (row_is 0 (omega arith)) in let n = h 0 (omega arith) in omega arith

    -- or returns rows untouched, where they do not hold the first row already
    pub leaves_rows : (row_in rows 0 ≡ row 1 0 0 0 → ⊥) → rows' ≡ rows → ⊥
    leaves_rows h e = h (ap (λ (l : List ℕ). row_in l 0) (sym e) ∙ row_is 0 (omega arith))

    -- or the pool: its k is 5
    pub leaves_pool : r.pool ≡ fresh → ⊥
    unfolding fresh_pool
    leaves_pool e = let k = ap (λ (p : Pool). p.k) e in let five = ap (λ (e : Ended). e.pool.k) ended ∙ printed_k in omega arith

    -- one that works the first record and repeats its row
    pub repeats_first : ((i : ℕ) → i < 5 → row_in rows' i ≡ row_in rows' 0) → ⊥
    repeats_first h = let e = ap (λ (w : Row). w.outcome) (sym (row_is 2 (omega arith)) ∙ h 2 (omega arith) ∙ row_is 0 (omega arith)) in omega arith

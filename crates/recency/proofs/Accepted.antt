-- A read or a write is counted by k or refused: where none is refused, there are no more of them than a pool takes references.
use mathlib.Core.Path.{◌≡◌, ap, ◌∙◌}
use mathlib.Core.Bool.{true}
use mathlib.Core.Logic.{⊎_elim}
use Prim.Native.Nat.{ℕ, zero, suc, ◌+◌, ◌≤◌, ◌<◌}
use native.Mathlib.Omega.{arith}
use lib.ListN.{length, get_or}
use borrow.Author.Tests.{le-leb, lt-leb}
use Rattle.limit.specs.Limits.{reference_limit}
use Rattle.search.specs.Search.{one_if}
use Rattle.settings.specs.declared.Settings.{Settings}
use Rattle.settings.specs.Settings.{in_range}
use Rattle.trace.specs.Layout.{Trace, record_in}
use Rattle.pool.specs.declared.Pool.{Pool}
use Rattle.pool.specs.Pool.{fresh_pool}
use Rattle.pool.proofs.Opening.{empty_sound}
use Rattle.tally.specs.declared.Tally.{Tally}
use Rattle.tally.specs.Rows.{is_refused}
use Rattle.tally.specs.Tally.{counted_by}
use Rattle.tally.proofs.Laws.{within_own}
use Rattle.effect.specs.Record.{Did, record_of}
use Rattle.effect.proofs.Answers.{Accepted, Refused, record_taken}
use Rattle.replay.specs.Replay.{Played, replay_to, replay_of}
use Rattle.replay.proofs.Laws.{replay_none, replay_suc}
use Rattle.replay.proofs.Going.{going}
use Rattle.recency.specs.Recency.{Lru, pool_after}
use Rattle.recency.proofs.Recency.{fresh_sized, fresh_k, recency_law}

-- what one record does: k rises by 1, or the refused count
abbrev OneMore : Pool → Did → Type 0
OneMore p d = d.pool.k + one_if (is_refused d.row) ≡ p.k + 1

refused_one : (p : Pool) (d : Did) → Refused p d → OneMore p d
refused_one p d q =
    let k = ap (λ (x : Did). x.pool.k) q.same in
    let o = ap (λ (x : Did). x.row.outcome) q.same in
    let one = ap one_if (le-leb 100 d.row.outcome (omega arith)) in
    omega arith

accepted_one : (p : Pool) (d : Did) → Accepted p d → OneMore p d
accepted_one p d q =
    let k = q.k in
    let o = q.outcome in
    let none = ap one_if (lt-leb 100 d.row.outcome (omega arith)) in
    omega arith

one_more_lem : (p : Pool) (page kind : ℕ) → kind ≤ 1 → OneMore p (record_of p page kind)
one_more_lem p page kind l =
    let d = record_of p page kind in
    ⊎_elim {C = OneMore p d} (refused_one p d) (accepted_one p d) (record_taken p page kind (omega arith))

module _ (s : Settings) (t : Tally) (trace : Trace) (plain : (n : ℕ) → n < length trace.pages → get_or trace.kinds n 0 ≤ 1) where
  -- so k and the refused count tell the records together
  sum_is : (n : ℕ) → n ≤ length trace.pages → (pool_after s t trace n).k + (replay_to (fresh_pool s) t trace n).tally.refused ≡ n + t.refused
  unfolding counted_by
  sum_is zero l =
      let e = replay_none (fresh_pool s) t trace in
      let k = ap (λ (r : Played). r.pool.k) e ∙ fresh_k s in
      let none = ap (λ (r : Played). r.tally.refused) e in
      omega arith
  sum_is (suc n) l =
      let h = sum_is n (omega arith) in
      let e = replay_suc (fresh_pool s) t trace n in
      let k = ap (λ (r : Played). r.pool.k) e in
      let more = ap (λ (r : Played). r.tally.refused) e in
      let one = one_more_lem (pool_after s t trace n) (record_in trace n).page (record_in trace n).kind (plain n l) in
      omega arith

  -- of so many that a pool takes, LRU refuses none
  pub plain_accepted : Lru s → length trace.pages ≤ reference_limit → (replay_of (fresh_pool s) t trace).tally.refused ≡ t.refused
  plain_accepted lru few =
      let k = (recency_law s t trace lru (record { kinds = plain; few = few })).accepted (length trace.pages) (omega arith) in
      let sum = sum_is (length trace.pages) (omega arith) in
      omega arith

  -- and where none is refused, whatever the rule, there are no more
  pub accepted_few : in_range s ≡ true → (replay_of (fresh_pool s) t trace).tally.refused ≡ t.refused → length trace.pages ≤ reference_limit
  accepted_few range none =
      let g = (going (fresh_pool s) t trace (empty_sound s range) (fresh_sized s) (within_own t) (length trace.pages)).sound.few in
      let sum = sum_is (length trace.pages) (omega arith) in
      omega arith

-- The fold: a replay of the renamed trace from the renamed pool is the renamed replay, after every record.
use mathlib.Core.Path.{◌≡◌, ap, sym, subst, ◌∙◌}
use mathlib.Core.Bool.{true}
use mathlib.Core.List.{List, [], ◌∷◌, ◌++◌, map, map-append}
use Prim.Native.Nat.{ℕ, zero, suc, ◌≤◌, ◌<◌}
use native.Mathlib.Omega.{arith}
use lib.ListN.{length, get_or}
use Rattle.search.specs.Search.{among}
use Rattle.word.specs.declared.Order.{Order}
use Rattle.trace.specs.Layout.{Trace, record_in}
use Rattle.pool.specs.declared.Pool.{Pool}
use Rattle.pool.proofs.Sound.{Sound}
use Rattle.pool.proofs.Sizes.{Sized}
use Rattle.tally.specs.declared.Row.{Row}
use Rattle.tally.specs.declared.Tally.{Tally}
use Rattle.tally.specs.Tally.{counted_by}
use Rattle.tally.proofs.Laws.{within_own}
use Rattle.effect.specs.Record.{Did, record_of}
use Rattle.replay.specs.Replay.{Played, after, replay_to, replay_of}
use Rattle.replay.proofs.Laws.{doing, replay_none, replay_suc}
use Rattle.replay.proofs.Going.{going}
use Rattle.rename.specs.Renamed.{renamed_pages, renamed_pool, renamed_trace, renamed_row, renamed_played}
use Rattle.rename.specs.Sameness.{Renames}
use Rattle.rename.proofs.Frames.{AllListed}
use Rattle.rename.proofs.Residents.{record_listed}
use Rattle.rename.proofs.Record.{renamed_did, record_renamed}
use Rattle.rename.proofs.Pages.{renamed_at}

-- one record more
after_renamed : (ρ : ℕ → ℕ) (r : Played) (d : Did) → after (renamed_played ρ r) (renamed_did ρ d) ≡ renamed_played ρ (after r d)
unfolding counted_by
after_renamed ρ r d =
    ap (λ (rows : List Row). record { rows = rows; written = renamed_pages ρ r.written ++ renamed_pages ρ d.written; pool = renamed_pool ρ d.pool; tally = counted_by r.tally d.row })
    (sym (map-append (renamed_row ρ) r.rows (d.row ∷ [])))
    ∙ ap (λ (written : List ℕ). record { rows = map (renamed_row ρ) (r.rows ++ (d.row ∷ [])); written = written; pool = renamed_pool ρ d.pool; tally = counted_by r.tally d.row })
    (sym (map-append ρ r.written d.written))

module _ (ρ : ℕ → ℕ) (pages : List ℕ) (names : Renames ρ pages) (p : Pool) (s : Sound p) (z : Sized p) (listed : AllListed pages p.frames) (t : Tally) (trace : Trace)
    (here : (n : ℕ) → n < length trace.pages → among pages (get_or trace.pages n 0) ≡ true) (o : Order) where
  -- after n records: the replay is renamed, and no page has turned up that is not in the list
  record Renamed (n : ℕ) : Type 0 where
    played : replay_to (renamed_pool ρ p) t (renamed_trace ρ o trace) n ≡ renamed_played ρ (replay_to p t trace n)
    known : AllListed pages (replay_to p t trace n).pool.frames

  -- one record more
  next : (n : ℕ) → n < length trace.pages → Renamed n → Renamed (suc n)
  next n l h =
      let r = replay_to p t trace n in
      let page = (record_in trace n).page in
      let kind = (record_in trace n).kind in
      let sound = (going p t trace s z (within_own t) n).sound in
      record {
        played = replay_suc (renamed_pool ρ p) t (renamed_trace ρ o trace) n
            ∙ ap (λ (q : Played). after q (record_of q.pool (record_in (renamed_trace ρ o trace) n).page kind)) h.played
            ∙ ap (λ (a : ℕ). after (renamed_played ρ r) (record_of (renamed_pool ρ r.pool) a kind)) (renamed_at ρ trace.pages n l)
            ∙ ap (after (renamed_played ρ r)) (record_renamed ρ pages names r.pool sound h.known page (here n l) kind)
            ∙ after_renamed ρ r (doing p t trace n)
            ∙ sym (ap (renamed_played ρ) (replay_suc p t trace n));
        known = subst (λ (q : Played). AllListed pages q.pool.frames) (sym (replay_suc p t trace n)) (record_listed pages r.pool h.known page (here n l) kind);
      }

  renamed_to : (n : ℕ) → n ≤ length trace.pages → Renamed n
  renamed_to zero l = record {
    played = replay_none (renamed_pool ρ p) t (renamed_trace ρ o trace) ∙ sym (ap (renamed_played ρ) (replay_none p t trace));
    known = subst (λ (q : Played). AllListed pages q.pool.frames) (sym (replay_none p t trace)) listed;
  }
  renamed_to (suc n) l = next n l (renamed_to n (omega arith))

  pub replay_renamed : replay_to (renamed_pool ρ p) t (renamed_trace ρ o trace) (length trace.pages) ≡ renamed_played ρ (replay_of p t trace)
  replay_renamed = (renamed_to (length trace.pages) (omega arith)).played

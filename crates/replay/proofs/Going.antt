-- What holds after every record of a replay.
use mathlib.Core.Path.{◌≡◌, refl, sym, subst, ◌∙◌}
use Prim.Native.Nat.{ℕ, zero, suc, ◌+◌, ◌*◌, ◌≤◌, ◌<◌}
use native.Mathlib.Omega.{arith}
use lib.ListN.{length, length-append}
use lib.Dec.{eqb}
use Rattle.search.specs.Search.{one_if}
use Rattle.settings.proofs.Laws.{ranges}
use Rattle.trace.specs.Layout.{Trace, writes_in, record_in}
use Rattle.pool.specs.declared.Pool.{Pool}
use Rattle.pool.proofs.Sound.{Sound}
use Rattle.pool.proofs.Sizes.{Sized}
use Rattle.tally.specs.declared.Tally.{Tally}
use Rattle.tally.specs.Tally.{tally_limit, counted_by, pages_in}
use Rattle.tally.specs.ForCode.{Within}
use Rattle.tally.proofs.Laws.{within_more, within_counted, raises_snoc}
use Rattle.effect.specs.Record.{Did, dirty_in}
use Rattle.effect.proofs.Kept.{Kept, record_kept}
use Rattle.replay.specs.Replay.{Played, started, after, replay_to}
use Rattle.replay.proofs.Laws.{doing, replay_none, replay_suc, writes_to, writes_suc, writes_all, writes_rise}

-- a replay so far, from counts of at most m: its pool sound and of the same settings, no more pages written than were dirty, its counts bounded
pub record Going (p : Pool) (trace : Trace) (m n : ℕ) (r : Played) : Type 0 where
  pub sound : Sound r.pool
  pub sized : Sized r.pool
  pub settings : r.pool.settings ≡ p.settings
  pub spent : length r.written + dirty_in r.pool.frames ≤ dirty_in p.frames + writes_to trace n
  pub counts : Within r.tally (m + 16 * n)
  pub pages : pages_in r.rows ≡ length r.written

module _ (p : Pool) (t : Tally) (trace : Trace) (s : Sound p) (z : Sized p) {m : ℕ} (w : Within t m) where
  begins : Going p trace m 0 (started p t)
  begins = record { sound = s; sized = z; settings = refl; spent = omega arith; counts = within_more t m (m + 16 * 0) (omega arith) w; pages = refl }

  goes_on : (n : ℕ) (r : Played) (d : Did) → Going p trace m n r → Kept r.pool (one_if (eqb (record_in trace n).kind 1)) d → Going p trace m (suc n) (after r d)
  goes_on n r d g k =
      let l = length-append r.written d.written in
      let x = g.spent in
      let y = k.spent in
      let e = writes_suc trace n in
      let few = (ranges r.pool.settings g.sound.settings).batch.1 in
      let pages-few = k.few in
      let b = k.counted in
      let ps = g.pages in
      let snoc = raises_snoc 4 r.rows d.row 0 in
      record {
        sound = k.sound;
        sized = k.sized;
        settings = k.settings ∙ g.settings;
        spent = omega arith;
        counts = subst (Within (counted_by r.tally d.row)) (omega arith) (within_counted r.tally d.row (m + 16 * n) g.counts (omega arith));
        pages = omega arith;
      }

  pub going : (n : ℕ) → Going p trace m n (replay_to p t trace n)
  going zero = subst (Going p trace m 0) (sym (replay_none p t trace)) begins
  going (suc n) =
      subst (Going p trace m (suc n)) (sym (replay_suc p t trace n))
      (goes_on n (replay_to p t trace n) (doing p t trace n) (going n) (record_kept (replay_to p t trace n).pool (going n).sound (going n).sized (record_in trace n).page (record_in trace n).kind))

  -- what record n does
  pub doing_kept : (n : ℕ) → Kept (replay_to p t trace n).pool (one_if (eqb (record_in trace n).kind 1)) (doing p t trace n)
  doing_kept n = record_kept (replay_to p t trace n).pool (going n).sound (going n).sized (record_in trace n).page (record_in trace n).kind

  -- its batch is no longer than the batch size
  pub doing_few : (n : ℕ) → length (doing p t trace n).written ≤ 16
  doing_few n =
      let k = (doing_kept n).few in
      let few = (ranges (replay_to p t trace n).pool.settings (going n).sound.settings).batch.1 in
      omega arith

  pub doing_batch : (n : ℕ) → (doing p t trace n).row.batch ≡ length (doing p t trace n).written
  doing_batch n = (doing_kept n).counted

  -- the pages written so far and by record n fit the places that a replay asks for
  pub written_fits : (n : ℕ) → n < length trace.kinds
      → length (replay_to p t trace n).written + length (doing p t trace n).written ≤ writes_in trace.kinds + dirty_in p.frames
  written_fits n l =
      let g = (going n).spent in
      let k = (doing_kept n).spent in
      let e = writes_suc trace n in
      let up = writes_rise trace (suc n) (length trace.kinds) l in
      let same = writes_all trace in
      omega arith

-- the written pages of a replay are never more than write records plus dirty frames at the start
pub written_few : (p : Pool) (t : Tally) (trace : Trace) → Sound p → Sized p → Within t tally_limit
    → length (replay_to p t trace (length trace.kinds)).written ≤ writes_in trace.kinds + dirty_in p.frames
written_few p t trace s z w = let g = (going p t trace s z w (length trace.kinds)).spent in let e = writes_all trace in omega arith

-- What the loops know of record i, from what they ask for.
use mathlib.Core.Path.{◌≡◌, ap, sym, subst, ◌∙◌}
use mathlib.Core.Bool.{true, and-eq-true_iff}
use mathlib.Core.List.{List}
use Prim.Native.Nat.{ℕ, ◌+◌, ◌*◌, ◌≤◌, ◌<◌}
use native.Mathlib.Omega.{arith}
use lib.ListN.{length}
use lib.Dec.{leb}
use borrow.Author.Tests.{leb-true}
use Rattle.trace.specs.declared.Summary.{Summary}
use Rattle.trace.specs.declared.Record.{Record}
use Rattle.trace.specs.Layout.{Trace, record_limit, record_in, writes_in}
use Rattle.trace.specs.Check.Checked.{Accepted}
use Rattle.trace.specs.Check.{check_of, trace_of}
use Rattle.search.proofs.Count.{count_few}
use Rattle.trace.proofs.Lists.{writes_le}
use Rattle.trace.proofs.Accept.{accepted_few, counts_are}
use Rattle.pool.specs.declared.Frame.{Frame}
use Rattle.pool.specs.declared.Pool.{Pool}
use Rattle.pool.specs.Pool.{frame_at}
use Rattle.pool.specs.Sound.{sound_pool}
use Rattle.pool.proofs.Sound.{Sound, told, made}
use Rattle.pool.proofs.Sizes.{Sized}
use Rattle.table.specs.declared.Bench.{Bench}
use Rattle.table.specs.Table.{pool_on}
use Rattle.table.proofs.Held.{frames_long}
use Rattle.tally.specs.declared.Tally.{Tally}
use Rattle.tally.specs.Tally.{tally_limit}
use Rattle.tally.specs.ForCode.{Within, Countable}
use Rattle.tally.proofs.Laws.{within_countable}
use Rattle.effect.specs.Record.{Did, record_of, dirty_in}
use Rattle.effect.specs.ForCode.{Effect, effect_of, Plays}
use Rattle.replay.specs.declared.Ended.{Ended}
use Rattle.replay.specs.Replay.{replay_to, replay_of}
use Rattle.replay.specs.Calls.{may_begin, room_for, ended_as, ended_of}
use Rattle.replay.specs.ForCode.{Ready}
use Rattle.replay.proofs.Laws.{doing}
use Rattle.replay.proofs.Begins.{begins_sound, begins_within, counts_fit}
use Rattle.replay.proofs.Going.{going, doing_few, doing_batch, written_fits}
use Rattle.replay.proofs.Running.{Counting, Listing, same_doing, counting_all}

-- a pool has 128 frames
pub dirty_few : (fs : List Frame) → dirty_in fs ≤ 128
unfolding dirty_in
dirty_few fs = count_few (λ i. (frame_at fs i).dirty) 128

-- what the loops ask, of a trace that is accepted
pub ready_by : (p : Pool) (t : Tally) (s : List ℕ) (h : Summary) → may_begin p t ≡ true → check_of s ≡ Accepted h → Ready p t s h
ready_by p t s h b a = record { begins = b; accepted = a }

module _ (p : Pool) (t : Tally) (s : List ℕ) (h : Summary) (z : Sized p) (y : Ready p t s h) where
  abbrev trace : Trace
  trace = trace_of s

  sound : Sound p
  sound = told p (begins_sound p t y.begins)

  within : Within t tally_limit
  within = begins_within p t y.begins

  module _ (q : Pool) (u : Tally) (i : ℕ) (l : i < h.count) (c : Counting p t trace q u i) (rec : Record) (e : rec ≡ record_in trace i) where
    pub played : record_of q rec.page rec.kind ≡ doing p t trace i
    played = same_doing p t trace q u i rec.page rec.kind c (ap (λ (x : Record). x.page) e) (ap (λ (x : Record). x.kind) e)

    pub still_sound : sound_pool q ≡ true
    still_sound = subst (λ (x : Pool). sound_pool x ≡ true) (sym c.pool) (made (replay_to p t trace i).pool (going p t trace sound z within i).sound)

    pub still_sized : Sized q
    still_sized = subst Sized (sym c.pool) (going p t trace sound z within i).sized

    written_short : length (record_of q rec.page rec.kind).written ≤ 16
    written_short = let f = doing_few p t trace sound z within i in let x = ap (λ (d : Did). length d.written) played in omega arith

    -- sixteen places are enough for one batch
    pub count_plays : Plays q (record_of q rec.page rec.kind) 0 16
    count_plays = record { sound = still_sound; access = still_sized.access; write = still_sized.write; room = let f = written_short in omega arith }

    pub row_batch : (f : Effect) → f ≡ effect_of (record_of q rec.page rec.kind) → f.row.batch ≡ length (record_of q rec.page rec.kind).written
    row_batch f x =
        let a = ap (λ (w : Effect). w.row.batch) x in
        let b = ap (λ (d : Did). d.row.batch) played in
        let m = doing_batch p t trace sound z within i in
        let n = ap (λ (d : Did). length d.written) played in
        omega arith

    -- no count wraps
    pub countable : (f : Effect) → f ≡ effect_of (record_of q rec.page rec.kind) → Countable u f.row
    countable f x =
        let few = accepted_few s h y.accepted in
        let b = row_batch f x in
        let m = written_short in
        let fit = counts_fit in
        within_countable u f.row (tally_limit + 16 * i) (omega arith) (subst (λ (v : Tally). Within v (tally_limit + 16 * i)) (sym c.tally) (going p t trace sound z within i).counts) (omega arith)

    module _ (rows written : ℕ) (room : room_for p trace rows written ≡ true) (rows₀ written₀ ls ws : List ℕ) (at : ℕ) (g : Listing p t trace rows₀ written₀ ls ws at i) where
      rooms : (4 * length trace.pages ≤ rows) × (writes_in trace.kinds + dirty_in p.frames ≤ written)
      rooms =
          let a = (and-eq-true_iff (leb (4 * length trace.pages) rows) (leb (writes_in trace.kinds + dirty_in p.frames) written)).0 room in
          (leb-true (4 * length trace.pages) rows a.0, leb-true (writes_in trace.kinds + dirty_in p.frames) written a.1)

      -- the places asked for are enough
      pub run_room : at + length (record_of q rec.page rec.kind).written ≤ written
      run_room =
          let n = (counts_are s h y.accepted).1 in
          let f = written_fits p t trace sound z within i (omega arith) in
          let x = ap (λ (d : Did). length d.written) played in
          let e = g.at_end in
          let r = rooms.1 in
          omega arith

      -- and few
      pub run_few : at + length (record_of q rec.page rec.kind).written ≤ record_limit + 128
      run_few =
          let n = (counts_are s h y.accepted).1 in
          let f = written_fits p t trace sound z within i (omega arith) in
          let x = ap (λ (d : Did). length d.written) played in
          let e = g.at_end in
          let w = writes_le trace.kinds in
          let few = accepted_few s h y.accepted in
          let d = dirty_few p.frames in
          omega arith

      pub row_room : 4 * i + 4 ≤ rows
      row_room = let n = (counts_are s h y.accepted).0 in let r = rooms.0 in omega arith

module _ (p : Pool) (t : Tally) (trace : Trace) where
  -- what it comes to in the end
  pub counted_all : (q left : Pool) (u : Tally) (i : ℕ) → Counting p t trace q u i → left ≡ q → i ≡ length trace.pages → ◌≡◌ {A = Ended} (ended_as 0 left u) (ended_of 0 p t (replay_of p t trace))
  counted_all q left u i c l n = ap (λ (x : Pool). ended_as 0 x u) l ∙ counting_all p t trace q u i c n

-- the pool on a bench has as many frames and log places as any
pub sized_on : (b : Bench) → length b.access ≡ 1024 → length b.write ≡ 512 → Sized (pool_on b)
sized_on b a w = record { frames = frames_long b.table 128; access = a; write = w }

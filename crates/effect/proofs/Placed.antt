-- Frames and logs changed in place are those of a hit, a fetch, a pin and an unpin.
use mathlib.Core.Path.{◌≡◌, refl, ap, sym, ◌∙◌}
use mathlib.Core.Bool.{Bool, true, false, ◌&&◌}
use mathlib.Core.List.{List}
use Prim.Native.Nat.{ℕ, zero, suc, ◌+◌, ◌-◌, ◌*◌, ◌≤◌, ◌<◌}
use native.Mathlib.Omega.{arith}
use lib.ListN.{set}
use lib.Seq.{get_or-set_same, set-set}
use lib.Dec.{eqb}
use Rattle.search.specs.Search.{pick}
use Rattle.pool.specs.declared.Frame.{Frame}
use Rattle.pool.specs.declared.Pool.{Pool}
use Rattle.pool.specs.Pool.{empty_frame, frame_at, epoch_at, now_of, with_count, with_pins, with_k, with_frames, with_access, with_write}
use Rattle.pool.proofs.Sizes.{Sized}
use Rattle.reference.specs.Logs.{cleared, length_with, log_with}
use Rattle.reference.specs.Reference.{raised, new_frame, referred, hit_at, fetched_at, pinned_at, unpinned_at}
use Rattle.tally.specs.declared.Row.{Row}
use Rattle.tally.specs.Rows.{row, hit, miss_unused, miss_clean, miss_dirty, unpin_done}
use Rattle.effect.specs.Record.{pin_limit, pins_at, pinned_where, filled}
use Rattle.effect.specs.declared.Asked.{Asked}
use Rattle.effect.specs.ForCode.{pins_with, hit_frame, fetched_frame, unpinned_frame, by_outcome, with_lengths, entered_at, hit_in, fetched_in, entered}

module _ (p : Pool) (z : Sized p) (i : ℕ) (l : i < 128) where
  own : (g : Frame) → frame_at (set p.frames i g) i ≡ g
  own g = get_or-set_same p.frames i g empty_frame (rw z.frames l)

  -- a frame that is hit, one that is fetched into, before it is pinned
  abbrev hit_on : Bool → Frame
  hit_on write = hit_frame (frame_at p.frames i) write false p.settings.cap p.k

  abbrev fetch_on : ℕ → Bool → Frame
  fetch_on page write = fetched_frame page write false p.k

  hit_placed : (write : Bool) → hit_at p i write ≡ entered_at p i (hit_on write) p.access p.write write
  unfolding hit_at referred now_of
  hit_placed write =
      let g = with_count (frame_at p.frames i) (raised p.settings.cap (frame_at p.frames i).count) in
      rw (own g, set-set p.frames i g)

  fetch_placed : (page : ℕ) (write : Bool) → fetched_at p i page write ≡ entered_at p i (fetch_on page write) (cleared p.access (i * 8) 8) (cleared p.write (i * 4) 4) write
  unfolding fetched_at referred now_of
  fetch_placed page write = rw (own (new_frame page), set-set p.frames i (new_frame page))

  pin_placed : (g : Frame) (access write : List ℕ) (on : Bool) → pinned_at (entered_at p i g access write on) i ≡ entered_at p i (with_pins g (g.pins + 1)) access write on
  unfolding pinned_at
  pin_placed g access write on =
      let h = with_lengths g (length_with access (i * 8) 8 g.accesses (now_of p) true) (length_with write (i * 4) 4 g.writes (now_of p) on) in
      rw (own h, set-set p.frames i h)

  -- with a pin where it is asked for
  pinned_placed : (q : Pool) (g : Frame) (access write : List ℕ) (on pin : Bool) → (pin && eqb g.pins pin_limit) ≡ false → q ≡ entered_at p i g access write on
      → pinned_where q pin i ≡ entered_at p i (with_pins g (pins_with pin g.pins)) access write on
  pinned_placed q g access write on true t e = ap (λ (x : Pool). pinned_at x i) e ∙ pin_placed g access write on ∙ rw t
  pinned_placed q g access write on false t e = e

  -- a record's frame
  pub entered_hit : (page : ℕ) (asks : Asked) → (asks.pin && eqb (pins_at p i) pin_limit) ≡ false → entered p (row hit i 0 0) page asks ≡ pinned_where (hit_at p i asks.write) asks.pin i
  unfolding entered hit_in
  entered_hit page asks t = sym (pinned_placed (hit_at p i asks.write) (hit_on asks.write) p.access p.write asks.write asks.pin t (hit_placed asks.write))

  none_pinned : (pin : Bool) → (pin && eqb 0 pin_limit) ≡ false
  none_pinned true = refl
  none_pinned false = refl

  filled_placed : (page : ℕ) (asks : Asked) → filled p i page asks.write asks.pin ≡ fetched_in p i page asks.write asks.pin
  unfolding fetched_in
  filled_placed page asks =
      pinned_placed (fetched_at p i page asks.write) (fetch_on page asks.write) (cleared p.access (i * 8) 8) (cleared p.write (i * 4) 4) asks.write asks.pin (none_pinned asks.pin)
      (fetch_placed page asks.write)

  pub entered_free : (page : ℕ) (asks : Asked) → entered p (row miss_unused i 0 0) page asks ≡ filled p i page asks.write asks.pin
  unfolding entered
  entered_free page asks = sym (filled_placed page asks)

  pub entered_left : (dirty : Bool) (left batch page : ℕ) (asks : Asked) → entered p (row (pick dirty miss_dirty miss_clean) i left batch) page asks ≡ filled p i page asks.write asks.pin
  unfolding entered
  entered_left true left batch page asks = sym (filled_placed page asks)
  entered_left false left batch page asks = sym (filled_placed page asks)

pub entered_unpin : (p : Pool) (i page : ℕ) (asks : Asked) → entered p (row unpin_done i 0 0) page asks ≡ unpinned_at p i
unfolding entered
entered_unpin p i page asks = refl

-- by outcome
by_fetch : {A : Type 0} (n : ℕ) (a b c d : A) → 1 ≤ n → n ≤ 3 → b ≡ by_outcome n a b c d
by_fetch zero a b c d l m = absurd (omega arith)
by_fetch (suc zero) a b c d l m = refl
by_fetch (suc (suc zero)) a b c d l m = refl
by_fetch (suc (suc (suc zero))) a b c d l m = refl
by_fetch (suc (suc (suc (suc n)))) a b c d l m = absurd (omega arith)

by_none : {A : Type 0} (n : ℕ) (a b c d : A) → 5 ≤ n → d ≡ by_outcome n a b c d
by_none zero a b c d l = absurd (omega arith)
by_none (suc zero) a b c d l = absurd (omega arith)
by_none (suc (suc zero)) a b c d l = absurd (omega arith)
by_none (suc (suc (suc zero))) a b c d l = absurd (omega arith)
by_none (suc (suc (suc (suc zero)))) a b c d l = absurd (omega arith)
by_none (suc (suc (suc (suc (suc n))))) a b c d l = refl

-- what the ways through `enter` leave
module _ (p q : Pool) (w : Row) (page : ℕ) (asks : Asked) where
  pub way_hit : w.outcome ≡ 0 → q ≡ hit_in p w.frame asks.write asks.pin → q ≡ entered p w page asks
  unfolding entered
  way_hit e h = h ∙ rw e

  pub way_fetch : 1 ≤ w.outcome → w.outcome ≤ 3 → q ≡ fetched_in p w.frame page asks.write asks.pin → q ≡ entered p w page asks
  unfolding entered
  way_fetch l m h = h ∙ by_fetch w.outcome (hit_in p w.frame asks.write asks.pin) (fetched_in p w.frame page asks.write asks.pin) (unpinned_at p w.frame) p l m

  pub way_unpin : w.outcome ≡ 4 → q ≡ unpinned_at p w.frame → q ≡ entered p w page asks
  unfolding entered
  way_unpin e h = h ∙ rw e

  -- a refused record changes nothing
  pub way_none : 5 ≤ w.outcome → q ≡ p → q ≡ entered p w page asks
  unfolding entered
  way_none l h = h ∙ by_none w.outcome (hit_in p w.frame asks.write asks.pin) (fetched_in p w.frame page asks.write asks.pin) (unpinned_at p w.frame) p l

pub entered_none : (p : Pool) (n page : ℕ) (asks : Asked) → 5 ≤ n → entered p (row n 0 0 0) page asks ≡ p
entered_none p n page asks l = sym (way_none p p (row n 0 0 0) page asks l refl)

-- nothing to take off
pub unpinned_none : (fr : Frame) → fr.pins ≤ 0 → fr ≡ unpinned_frame fr
unpinned_none fr l = let e : fr.pins ≡ fr.pins - 1 = omega arith in ap (with_pins fr) e

-- what the code leaves of a pool: a reference in frame i, with its logs as they are or emptied
module _ (p : Pool) (i : ℕ) (write pin : Bool) (epoch : ℕ) (e : epoch ≡ epoch_at p.settings p.k) where
  -- the pool with one reference more
  abbrev stepped : List Frame → List ℕ → List ℕ → Pool
  stepped fs a b = with_write (with_access (with_frames (with_k p (p.k + 1)) fs) a) b

  pub hit_left : (old fr : Frame) (n m : ℕ) (a b : List ℕ) (fs : List Frame) → old ≡ frame_at p.frames i → fr ≡ hit_frame old write pin p.settings.cap p.k
      → (n ≡ length_with p.access (i * 8) 8 fr.accesses epoch true) × (a ≡ log_with p.access (i * 8) 8 fr.accesses epoch true)
      → (m ≡ length_with p.write (i * 4) 4 fr.writes epoch write) × (b ≡ log_with p.write (i * 4) 4 fr.writes epoch write)
      → fs ≡ set p.frames i (with_lengths fr n m) → stepped fs a b ≡ hit_in p i write pin
  unfolding hit_in now_of
  hit_left old fr n m a b fs d h x y f = rw (f, x.0, x.1, y.0, y.1, h, d, e)

  pub fetch_left : (fr : Frame) (page n m : ℕ) (c d a b : List ℕ) (fs : List Frame) → fr ≡ fetched_frame page write pin p.k → c ≡ cleared p.access (i * 8) 8 → d ≡ cleared p.write (i * 4) 4
      → (n ≡ length_with c (i * 8) 8 0 epoch true) × (a ≡ log_with c (i * 8) 8 0 epoch true)
      → (m ≡ length_with d (i * 4) 4 0 epoch write) × (b ≡ log_with d (i * 4) 4 0 epoch write)
      → fs ≡ set p.frames i (with_lengths fr n m) → stepped fs a b ≡ fetched_in p i page write pin
  unfolding fetched_in now_of
  fetch_left fr page n m c d a b fs h u v x y f = rw (f, x.0, x.1, y.0, y.1, h, u, v, e)

-- a frame that is hit has its logs' lengths
module _ (fs : List Frame) (i : ℕ) (write pin : Bool) (cap k : ℕ) (old fr : Frame) (d : old ≡ frame_at fs i) (h : fr ≡ hit_frame old write pin cap k) where
  pub hit_accesses : fr.accesses ≡ (frame_at fs i).accesses
  hit_accesses = rw (h, d)

  pub hit_writes : fr.writes ≡ (frame_at fs i).writes
  hit_writes = rw (h, d)

-- and an unpin
pub unpin_left : (p : Pool) (i : ℕ) (fs : List Frame) → fs ≡ set p.frames i (unpinned_frame (frame_at p.frames i)) → with_frames p fs ≡ unpinned_at p i
unfolding unpinned_at
unpin_left p i fs e = rw e

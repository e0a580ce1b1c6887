-- The ways through a record, over variables.
use mathlib.Core.Path.{◌≡◌}
use mathlib.Core.Bool.{Bool, true, false, ◌&&◌}
use mathlib.Core.List.{List, []}
use Prim.Native.Nat.{ℕ, ◌<◌}
use native.Mathlib.Omega.{arith}
use lib.Dec.{eqb, leb}
use Rattle.std.specs.Prelude.{Some, None}
use Rattle.search.specs.Search.{never}
use Rattle.search.proofs.Least.{least_sound}
use Rattle.settings.proofs.Laws.{ranges}
use Rattle.refusal.specs.Refusals.{no_reference_left, no_frame, not_pinned, pins_full}
use Rattle.pool.specs.declared.Frame.{Frame}
use Rattle.pool.specs.declared.Pool.{Pool}
use Rattle.limit.specs.Limits.{reference_limit}
use Rattle.pool.specs.Sound.{sound_pool}
use Rattle.pool.proofs.Sound.{told}
use Rattle.reference.specs.Search.{has, find_page, unused, lowest_unused}
use Rattle.reference.specs.Reference.{hit_at, unpinned_at}
use Rattle.victim.specs.Choice.{Choice, left_by}
use Rattle.victim.specs.Rules.{choice_of}
use Rattle.tally.specs.Rows.{row, hit, miss_unused, unpin_done}
use Rattle.effect.specs.Record.{did, pin_limit, pins_at, refusal, pinned_where, filled, hit_of, leaving_of, eviction_of, miss_of, reference_of, unpin_of}

module _ (p : Pool) (page : ℕ) (write pin : Bool) where
  pub at_limit : leb reference_limit p.k ≡ true → reference_of p page write pin ≡ refusal p no_reference_left
  unfolding reference_of
  at_limit e = rw e

  pub resident : (i : ℕ) → leb reference_limit p.k ≡ false → find_page p.frames page ≡ Some i → reference_of p page write pin ≡ hit_of p i write pin
  unfolding reference_of
  resident i e a = rw (e, a)

  pub absent : leb reference_limit p.k ≡ false → find_page p.frames page ≡ None → reference_of p page write pin ≡ miss_of p page write pin
  unfolding reference_of
  absent e a = rw (e, a)

  pub free : (i : ℕ) → lowest_unused p ≡ Some i → miss_of p page write pin ≡ did (row miss_unused i 0 0) [] (filled p i page write pin)
  unfolding miss_of
  free i a = rw a

  pub full : lowest_unused p ≡ None → miss_of p page write pin ≡ eviction_of p page write pin
  unfolding miss_of
  full a = rw a

  pub victim : (c : Choice) (v : ℕ) → c ≡ choice_of p → c.found ≡ Some v → eviction_of p page write pin ≡ leaving_of (left_by p c) v page write pin
  unfolding eviction_of
  victim c v e a = rw (← e, a)

  pub no_victim : (choice_of p).found ≡ None → eviction_of p page write pin ≡ refusal p no_frame
  unfolding eviction_of
  no_victim a = rw a

module _ (p : Pool) (i : ℕ) (write pin : Bool) where
  pub pins_full_lem : (pin && eqb (pins_at p i) pin_limit) ≡ true → hit_of p i write pin ≡ refusal p pins_full
  unfolding hit_of
  pins_full_lem e = rw e

  pub pins_free : (pin && eqb (pins_at p i) pin_limit) ≡ false → hit_of p i write pin ≡ did (row hit i 0 0) [] (pinned_where (hit_at p i write) pin i)
  unfolding hit_of
  pins_free e = rw e

module _ (p : Pool) (page : ℕ) where
  pub unpin_absent : find_page p.frames page ≡ None → unpin_of p page ≡ refusal p not_pinned
  unfolding unpin_of
  unpin_absent a = rw a

  pub unpin_none : (i : ℕ) → find_page p.frames page ≡ Some i → eqb (pins_at p i) 0 ≡ true → unpin_of p page ≡ refusal p not_pinned
  unfolding unpin_of
  unpin_none i a e = rw (a, e)

  pub unpin_one : (i : ℕ) → find_page p.frames page ≡ Some i → eqb (pins_at p i) 0 ≡ false → unpin_of p page ≡ did (row unpin_done i 0 0) [] (unpinned_at p i)
  unfolding unpin_of
  unpin_one i a e = rw (a, e)

-- what is found is a frame
pub found_few : (fs : List Frame) (page i : ℕ) → find_page fs page ≡ Some i → i < 128
unfolding find_page
found_few fs page i e = (least_sound (has fs page) never 128 i e).0

pub unused_few : (p : Pool) (i : ℕ) → sound_pool p ≡ true → lowest_unused p ≡ Some i → i < 128
unfolding lowest_unused
unused_few p i s e =
    let l = (least_sound (unused p.frames) never p.settings.frames i e).0 in
    let f = (ranges p.settings (told p s).settings).frames.1 in
    omega arith

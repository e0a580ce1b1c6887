-- The invariant of the clock sweep's loop, with its start, its turn and its end, over variables.
use Rattle.std.proofs.Common.{◌≡◌, ℕ, zero, suc, ◌+◌, ◌*◌, ◌<◌, ◌≤◌, true, false, List, set, sym, refl, ap, ◌∙◌, true≢false, mul-le-mul_left, arith, Option, Some, None}
use Rattle.search.specs.Search.{on_found, never}
use Rattle.search.proofs.Least.{least_sound}
use Rattle.settings.proofs.Laws.{ranges}
use Rattle.pool.specs.declared.Frame.{Frame}
use Rattle.pool.specs.declared.Pool.{Pool}
use Rattle.pool.specs.Pool.{frame_at, with_count}
use Rattle.pool.proofs.Sound.{Sound}
use Rattle.table.specs.declared.Bench.{Bench}
use Rattle.table.specs.Table.{pool_on}
use Rattle.victim.specs.Choice.{Choice, unpinned, unmoved}
use Rattle.victim.specs.ForCode.{chosen_on, Chose}
use Rattle.victim.specs.Clock.{rests, passed_count, passed, next_hand, sweep_from, sweep_of, rested_at, swept_choice, any_unpinned, some_unpinned, clock_choice}
use Rattle.victim.proofs.clock.Falling.{dist_below, next_below, passed_unpinned, to_go, to_go_falls, sweep_stop, sweep_on}

-- The unpinned frame that a sweep comes to at the latest.

at : Option ℕ → ℕ
at None = 0
at (Some i) = i

pub home : Pool → ℕ
home p = at (any_unpinned p.frames p.settings.frames)

pub home_free : (p : Pool) → some_unpinned p ≡ true → (home p < p.settings.frames) × (unpinned p.frames (home p) ≡ true)
unfolding home at any_unpinned
home_free p some = go (any_unpinned p.frames p.settings.frames) refl some
  where
    go : (r : Option ℕ) → any_unpinned p.frames p.settings.frames ≡ r → on_found r (λ i. true) false ≡ true → (at r < p.settings.frames) × (unpinned p.frames (at r) ≡ true)
    go None e s = absurd (true≢false (sym s))
    go (Some i) e s = least_sound (unpinned p.frames) never p.settings.frames i e

-- at the start fewer visits are left than f × (cap + 1)
pub to_go_few : (p : Pool) (u : ℕ) → Sound p → u < p.settings.frames → to_go p.settings.frames u p.frames p.hand < p.settings.frames * (p.settings.cap + 1)
to_go_few p u sound l =
    let few = (ranges p.settings sound.settings).frames.1 in
    let d = dist_below p.settings.frames p.hand u sound.hand l in
    let m = mul-le-mul_left p.settings.frames (sound.frame u (omega arith)).capped in
    omega arith

-- The loop's invariant: with n visits allowed still, more than are left, the sweep from here ends as the whole one does.

pub record Sweeping (p : Pool) (fs : List Frame) (h : ℕ) : Type 0 where
  pub on : h < p.settings.frames
  pub few : p.settings.frames ≤ 128
  pub below : home p < p.settings.frames
  pub free : unpinned fs (home p) ≡ true
  pub fuel : ℕ
  pub enough : to_go p.settings.frames (home p) fs h < fuel
  pub same : sweep_from fuel p.settings.frames h fs ≡ sweep_of p

pub start : (p : Pool) → Sound p → some_unpinned p ≡ true → Sweeping p p.frames p.hand
unfolding sweep_of
start p sound some = record {
  on = sound.hand;
  few = (ranges p.settings sound.settings).frames.1;
  below = (home_free p some).0;
  free = (home_free p some).1;
  fuel = p.settings.frames * (p.settings.cap + 1);
  enough = to_go_few p (home p) sound (home_free p some).0;
  same = refl;
}

module _ (p : Pool) (fs : List Frame) (h : ℕ) (s : Sweeping p fs h) where
  falls : rests (frame_at fs h) ≡ false → suc (to_go p.settings.frames (home p) (passed fs h) (next_hand p.settings.frames h)) ≡ to_go p.settings.frames (home p) fs h
  falls r = to_go_falls p.settings.frames (home p) s.below fs h s.on s.free r

  turn' : rests (frame_at fs h) ≡ false → (n : ℕ) → to_go p.settings.frames (home p) fs h < n → sweep_from n p.settings.frames h fs ≡ sweep_of p → Sweeping p (passed fs h) (next_hand p.settings.frames h)
  turn' r zero l e = absurd (omega arith)
  turn' r (suc n) l e = record {
    on = next_below p.settings.frames h s.on;
    few = s.few;
    below = s.below;
    free = passed_unpinned fs h (home p) s.free;
    fuel = n;
    enough = let q = falls r in omega arith;
    same = sym (sweep_on n p.settings.frames h fs r) ∙ e;
  }

  -- a visit that passes, as the code makes it: it finds the frame fr and gives it the count n
  passes : (fr : Frame) (n : ℕ) (gs : List Frame) → fr ≡ frame_at fs h → n ≡ passed_count fr → gs ≡ set fs h (with_count (frame_at fs h) n) → gs ≡ passed fs h
  passes fr n gs e m d = rw (d, m, e)

  pub turn : (fr : Frame) (n : ℕ) (gs : List Frame) (k : ℕ) → fr ≡ frame_at fs h → rests fr ≡ false → n ≡ passed_count fr → gs ≡ set fs h (with_count (frame_at fs h) n)
      → k ≡ next_hand p.settings.frames h → Sweeping p gs k
  turn fr n gs k e r m d q = rw (passes fr n gs e m d, q) (turn' (rw e at r) s.fuel s.enough s.same)

  pub less : (fr : Frame) (n : ℕ) (gs : List Frame) (k : ℕ) → fr ≡ frame_at fs h → rests fr ≡ false → n ≡ passed_count fr → gs ≡ set fs h (with_count (frame_at fs h) n)
      → k ≡ next_hand p.settings.frames h → to_go p.settings.frames (home p) gs k < to_go p.settings.frames (home p) fs h
  less fr n gs k e r m d q = rw (passes fr n gs e m d, q) (let l = falls (rw e at r) in omega arith)

  stopped : rests (frame_at fs h) ≡ true → (n : ℕ) → to_go p.settings.frames (home p) fs h < n → sweep_from n p.settings.frames h fs ≡ sweep_of p → (h, fs) ≡ sweep_of p
  stopped r zero l e = absurd (omega arith)
  stopped r (suc n) l e = sym (sweep_stop n p.settings.frames h fs r) ∙ e

  -- the visit that rests
  pub end : (fr : Frame) (k : ℕ) → fr ≡ frame_at fs h → rests fr ≡ true → k ≡ next_hand p.settings.frames h → ◌≡◌ {A = Choice} (record { found = Some h; hand = k; sampler = p.sampler; frames = fs }) (swept_choice p)
  unfolding swept_choice
  end fr k e r d = rw d (ap (rested_at p) (stopped (rw e at r) s.fuel s.enough s.same))

-- The two ways through a choice.

pub some_free : (p : Pool) (i : ℕ) → any_unpinned p.frames p.settings.frames ≡ Some i → some_unpinned p ≡ true
some_free p i e = rw e

pub way_swept : (p : Pool) (found : Option ℕ) (b : Bench) (i : ℕ) → any_unpinned p.frames p.settings.frames ≡ Some i → Chose p (swept_choice p) found b → Chose p (clock_choice p) found b
unfolding clock_choice
way_swept p found b i e d = rw e d

pub way_pinned : (p : Pool) (b : Bench) → any_unpinned p.frames p.settings.frames ≡ None → pool_on b ≡ p → Chose p (clock_choice p) None b
unfolding clock_choice
way_pinned p b e d = let c : chosen_on None b ≡ unmoved p None = ap (λ (q : Pool). unmoved q None) d in rw e (record { choice = c; left = d })

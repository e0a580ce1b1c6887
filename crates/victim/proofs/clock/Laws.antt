-- What the clock owes, as every rule; that its sweep comes to rest, and where.
use Rattle.std.proofs.Common.{◌≡◌, ℕ, zero, suc, ◌+◌, ◌-◌, ◌*◌, ◌<◌, ◌≤◌, Bool, true, false, eqb, List, map, length, set, sym, refl, ap, ◌∙◌, subst, true≢false, arith, length-set, eqb-true, Option, Some, None}
use mathlib.Core.Bool.{and-eq-true_iff}
use Rattle.search.specs.Search.{pick, on_found, never}
use Rattle.search.proofs.Least.{one_or_none, least_none, least_none_of, least_cong}
use Rattle.search.proofs.Every.{pick_ind}
use Rattle.pool.specs.declared.Frame.{Frame}
use Rattle.pool.specs.declared.Pool.{Pool}
use Rattle.pool.specs.Pool.{frame_at}
use Rattle.pool.proofs.Sound.{Sound}
use Rattle.pool.proofs.Quiet.{Quiet, sound_quiet}
use Rattle.victim.specs.Choice.{Choice, unpinned, unmoved, left_by}
use Rattle.victim.specs.Clock.{rests, passed_frame, passed, next_hand, sweep_from, visits, sweep_of, rested_at, swept_choice, any_unpinned, some_unpinned, clock_choice, sooner, clock_rule}
use Rattle.victim.proofs.Owed.{AllPinned, repaged, repaged_pool, repaged_choice, EmptyStays, frame_repaged, map_set, Lowered, lowered_same, lowered_more, quiet_of, Serves, Owes}
use Rattle.victim.proofs.clock.Falling.{next_below, passed_at, passed_unpinned, to_go, to_go_falls}
use Rattle.victim.proofs.clock.Sweeping.{home, home_free, to_go_few}

-- The sweep comes to rest.

pub record Rested (f : ℕ) (r : ℕ × List Frame) : Type 0 where
  pub on : r.0 < f
  pub rest : rests (frame_at r.1 r.0) ≡ true

pick_same : {A : Type 0} (t : Bool) (a b c : A) → (t ≡ false → b ≡ c) → pick t a b ≡ pick t a c
pick_same true a b c f = refl
pick_same false a b c f = f refl

-- as many visits as are counted are as good as all that were allowed
visit_sweep : (n f h : ℕ) (fs : List Frame) (t : Bool) → rests (frame_at fs h) ≡ t
    → sweep_from (visits n f (next_hand f h) (passed fs h)) f (next_hand f h) (passed fs h) ≡ sweep_from n f (next_hand f h) (passed fs h)
    → sweep_from (suc (pick t 0 (visits n f (next_hand f h) (passed fs h)))) f h fs ≡ pick t (h, fs) (sweep_from n f (next_hand f h) (passed fs h))
unfolding sweep_from
visit_sweep n f h fs true e k = rw e
visit_sweep n f h fs false e k = rw e k

pub visits_sweep : (n f h : ℕ) (fs : List Frame) → sweep_from (visits n f h fs) f h fs ≡ sweep_from n f h fs
unfolding sweep_from visits
visits_sweep zero f h fs = refl
visits_sweep (suc n) f h fs = visit_sweep n f h fs (rests (frame_at fs h)) refl (visits_sweep n f (next_hand f h) (passed fs h))

module _ (f u : ℕ) (uf : u < f) where
  -- with more visits allowed than are left the hand rests
  settles : (n h : ℕ) (fs : List Frame) → h < f → unpinned fs u ≡ true → to_go f u fs h < n → Rested f (sweep_from n f h fs)
  unfolding sweep_from
  settles zero h fs hf t l = absurd (omega arith)
  settles (suc n) h fs hf t l =
      pick_ind (Rested f) (rests (frame_at fs h)) (h, fs) (sweep_from n f (next_hand f h) (passed fs h))
      (λ e. record { on = hf; rest = e })
      (λ e. let q = to_go_falls f u uf fs h hf t e in settles n (next_hand f h) (passed fs h) (next_below f h hf) (passed_unpinned fs h u t) (omega arith))

  -- and however many more are allowed, it ends alike
  ends_alike : (n m h : ℕ) (fs : List Frame) → h < f → unpinned fs u ≡ true → to_go f u fs h < n → to_go f u fs h < m → sweep_from n f h fs ≡ sweep_from m f h fs
  unfolding sweep_from
  ends_alike zero m h fs hf t l k = absurd (omega arith)
  ends_alike (suc n) zero h fs hf t l k = absurd (omega arith)
  ends_alike (suc n) (suc m) h fs hf t l k =
      pick_same (rests (frame_at fs h)) (h, fs) (sweep_from n f (next_hand f h) (passed fs h)) (sweep_from m f (next_hand f h) (passed fs h))
      (λ e. let q = to_go_falls f u uf fs h hf t e in ends_alike n m (next_hand f h) (passed fs h) (next_below f h hf) (passed_unpinned fs h u t) (omega arith) (omega arith))

  -- however many may be visited, no more are than are left, and the last
  visits_few : (n h : ℕ) (fs : List Frame) → h < f → unpinned fs u ≡ true → visits n f h fs ≤ suc (to_go f u fs h)
  unfolding visits
  visits_few zero h fs hf t = omega arith
  visits_few (suc n) h fs hf t =
      pick_ind (λ (x : ℕ). suc x ≤ suc (to_go f u fs h)) (rests (frame_at fs h)) 0 (visits n f (next_hand f h) (passed fs h))
      (λ e. omega arith)
      (λ e. let q = to_go_falls f u uf fs h hf t e in let v = visits_few n (next_hand f h) (passed fs h) (next_below f h hf) (passed_unpinned fs h u t) in omega arith)

-- where a frame below f is unpinned, the hand rests below f on an unpinned frame with count 0, at most f × (cap + 1) frames visited
pub sweep_rests : (p : Pool) (u : ℕ) → Sound p → u < p.settings.frames → unpinned p.frames u ≡ true
    → Rested p.settings.frames (sweep_of p) × ((n : ℕ) → visits n p.settings.frames p.hand p.frames ≤ p.settings.frames * (p.settings.cap + 1))
unfolding sweep_of
sweep_rests p u sound l t =
    let few = to_go_few p u sound l in (
      settles p.settings.frames u l (p.settings.frames * (p.settings.cap + 1)) p.hand p.frames sound.hand t few,
      λ n. let v = visits_few p.settings.frames u l n p.hand p.frames sound.hand t in omega arith,
    )

-- so a longer sweep would end alike
pub sweep_whole : (p : Pool) (u n : ℕ) → Sound p → u < p.settings.frames → unpinned p.frames u ≡ true → p.settings.frames * (p.settings.cap + 1) ≤ n
    → sweep_from n p.settings.frames p.hand p.frames ≡ sweep_of p
unfolding sweep_of
sweep_whole p u n sound l t m =
    let few = to_go_few p u sound l in
    ends_alike p.settings.frames u l n (p.settings.frames * (p.settings.cap + 1)) p.hand p.frames sound.hand t (omega arith) few

swept_rests : (p : Pool) → Sound p → some_unpinned p ≡ true → Rested p.settings.frames (sweep_of p)
swept_rests p sound some = let u = home_free p some in (sweep_rests p (home p) sound u.0 u.1).0

-- It only lowers counts.

passed_lowers : (fs : List Frame) (h i : ℕ) → Lowered (frame_at fs i) (frame_at (passed fs h) i)
passed_lowers fs h i = passed_at fs h i (Lowered (frame_at fs i)) (lowered_same (frame_at fs i)) (record { kept = refl; low = low; pinned = λ e. rw e })
  where
    low : (passed_frame (frame_at fs i)).count ≤ (frame_at fs i).count
    low = pick_ind (λ (x : ℕ). x ≤ (frame_at fs i).count) (unpinned fs i) ((frame_at fs i).count - 1) (frame_at fs i).count (λ e. omega arith) (λ e. omega arith)

sweep_lowers : (n f h : ℕ) (fs : List Frame) (i : ℕ) → Lowered (frame_at fs i) (frame_at (sweep_from n f h fs).1 i)
unfolding sweep_from
sweep_lowers zero f h fs i = lowered_same (frame_at fs i)
sweep_lowers (suc n) f h fs i =
    pick_ind (λ (r : ℕ × List Frame). Lowered (frame_at fs i) (frame_at r.1 i)) (rests (frame_at fs h)) (h, fs) (sweep_from n f (next_hand f h) (passed fs h))
    (λ e. lowered_same (frame_at fs i))
    (λ e. lowered_more (frame_at fs i) (frame_at (passed fs h) i) (frame_at (sweep_from n f (next_hand f h) (passed fs h)).1 i) (passed_lowers fs h i) (sweep_lowers n f (next_hand f h) (passed fs h) i))

swept_lowers : (p : Pool) (i : ℕ) → Lowered (frame_at p.frames i) (frame_at (swept_choice p).frames i)
unfolding swept_choice sweep_of
swept_lowers p i = sweep_lowers (p.settings.frames * (p.settings.cap + 1)) p.settings.frames p.hand p.frames i

-- It does not look at pages.

module _ (new : Bool → ℕ → ℕ) (stays : EmptyStays new) where
  passed_repaged : (fs : List Frame) (h : ℕ) → passed (map (repaged new) fs) h ≡ map (repaged new) (passed fs h)
  passed_repaged fs h = ap (λ (fr : Frame). set (map (repaged new) fs) h (passed_frame fr)) (frame_repaged new stays fs h) ∙ map_set (repaged new) fs h (passed_frame (frame_at fs h))

  abbrev repaged_at : ℕ × List Frame → ℕ × List Frame
  repaged_at r = (r.0, map (repaged new) r.1)

  sweep_repaged : (n f h : ℕ) (fs : List Frame) → sweep_from n f h (map (repaged new) fs) ≡ repaged_at (sweep_from n f h fs)
  unfolding sweep_from
  sweep_repaged zero f h fs = refl
  sweep_repaged (suc n) f h fs =
      ap (λ (fr : Frame). pick (rests fr) (h, map (repaged new) fs) (sweep_from n f (next_hand f h) (passed (map (repaged new) fs) h))) (frame_repaged new stays fs h)
      ∙ ap (λ (gs : List Frame). pick (rests (frame_at fs h)) (h, map (repaged new) fs) (sweep_from n f (next_hand f h) gs)) (passed_repaged fs h)
      ∙ ap (pick (rests (frame_at fs h)) (h, map (repaged new) fs)) (sweep_repaged n f (next_hand f h) (passed fs h))
      ∙ go (rests (frame_at fs h))
    where
      go : (b : Bool) → pick b (h, map (repaged new) fs) (repaged_at (sweep_from n f (next_hand f h) (passed fs h))) ≡ repaged_at (pick b (h, fs) (sweep_from n f (next_hand f h) (passed fs h)))
      go true = refl
      go false = refl

  swept_repaged : (p : Pool) → swept_choice (repaged_pool new p) ≡ repaged_choice new (swept_choice p)
  unfolding swept_choice sweep_of
  swept_repaged p = ap (rested_at p) (sweep_repaged (p.settings.frames * (p.settings.cap + 1)) p.settings.frames p.hand p.frames)

  any_repaged : (fs : List Frame) (f : ℕ) → any_unpinned (map (repaged new) fs) f ≡ any_unpinned fs f
  unfolding any_unpinned
  any_repaged fs f =
      least_cong (unpinned (map (repaged new) fs)) (unpinned fs) never never f (λ j _. ap (λ (fr : Frame). eqb fr.pins 0) (frame_repaged new stays fs j)) (λ i j _ _. refl)

-- Its two cases.

clock_cases : (P : Choice → Type 0) (p : Pool) → (some_unpinned p ≡ true → P (swept_choice p)) → (some_unpinned p ≡ false → P (unmoved p None)) → P (clock_choice p)
unfolding clock_choice
clock_cases P p f g = pick_ind P (some_unpinned p) (swept_choice p) (unmoved p None) f g

none_free : (p : Pool) → some_unpinned p ≡ false → AllPinned p
unfolding any_unpinned
none_free p s i l = go (any_unpinned p.frames p.settings.frames) refl s
  where
    go : (r : Option ℕ) → any_unpinned p.frames p.settings.frames ≡ r → on_found r (λ i. true) false ≡ false → unpinned p.frames i ≡ false
    go None e s = least_none (unpinned p.frames) never p.settings.frames i e l
    go (Some j) e s = absurd (true≢false s)

free_none : (p : Pool) → AllPinned p → some_unpinned p ≡ false
unfolding any_unpinned
free_none p all = ap (λ (r : Option ℕ). on_found r (λ i. true) false) (least_none_of (unpinned p.frames) never p.settings.frames all)

-- The laws.

-- its victim lies below f and is unpinned
pub clock_unpinned : (p : Pool) (v : ℕ) → Sound p → (clock_choice p).found ≡ Some v → (v < p.settings.frames) × (unpinned p.frames v ≡ true)
unfolding swept_choice
clock_unpinned p v sound = clock_cases (λ c. c.found ≡ Some v → (v < p.settings.frames) × (unpinned p.frames v ≡ true)) p
    (λ some e. let z : (sweep_of p).0 ≡ v = cc in
    let r = swept_rests p sound some in
    let free = ((and-eq-true_iff (unpinned (sweep_of p).1 (sweep_of p).0) (eqb (frame_at (sweep_of p).1 (sweep_of p).0).count 0)).0 r.rest).0 in
    let pins = ap (λ (fr : Frame). eqb fr.pins 0) (swept_lowers p (sweep_of p).0).kept in
    subst (λ (x : ℕ). (x < p.settings.frames) × (unpinned p.frames x ≡ true)) z (r.on, sym pins ∙ free))
    (λ none e. absurd (one_or_none v (sym e)))

-- it finds none exactly where every frame below f is pinned
pub clock_serves : Serves clock_choice
unfolding swept_choice
clock_serves p = (
  clock_cases (λ c. c.found ≡ None → AllPinned p) p (λ some e. absurd (one_or_none (sweep_of p).0 e)) (λ none e. none_free p none),
  λ all. clock_cases (λ c. c.found ≡ None) p (λ some. absurd (true≢false (sym some ∙ free_none p all))) (λ none. refl),
)

-- it keeps of each frame all but the count, which it does not raise, and all of a pinned one
pub clock_lowers : (p : Pool) (i : ℕ) → Lowered (frame_at p.frames i) (frame_at (clock_choice p).frames i)
clock_lowers p i = clock_cases (λ c. Lowered (frame_at p.frames i) (frame_at c.frames i)) p (λ some. swept_lowers p i) (λ none. lowered_same (frame_at p.frames i))

-- no frame more or less
passed_long : (n f h : ℕ) (fs : List Frame) → length (sweep_from n f h fs).1 ≡ length fs
unfolding sweep_from
passed_long zero f h fs = refl
passed_long (suc n) f h fs =
    pick_ind (λ (r : ℕ × List Frame). length r.1 ≡ length fs) (rests (frame_at fs h)) (h, fs) (sweep_from n f (next_hand f h) (passed fs h))
    (λ e. refl)
    (λ e. passed_long n f (next_hand f h) (passed fs h) ∙ length-set fs h (passed_frame (frame_at fs h)))

pub clock_long : (p : Pool) → length (clock_choice p).frames ≡ length p.frames
unfolding swept_choice sweep_of
clock_long p = clock_cases (λ c. length c.frames ≡ length p.frames) p (λ some. passed_long (p.settings.frames * (p.settings.cap + 1)) p.settings.frames p.hand p.frames) (λ none. refl)

-- it changes nothing but hand, sampler number and clock counts
pub clock_quiet : (p : Pool) → Sound p → Quiet p (left_by p (clock_choice p))
unfolding swept_choice
clock_quiet p sound =
    quiet_of p sound (clock_choice p)
    (clock_cases (λ c. c.hand < p.settings.frames) p (λ some. next_below p.settings.frames (sweep_of p).0 (swept_rests p sound some).on) (λ none. sound.hand))
    (clock_lowers p)

-- what it leaves is sound
pub clock_sound : (p : Pool) → Sound p → Sound (left_by p (clock_choice p))
clock_sound p sound = sound_quiet p (left_by p (clock_choice p)) sound (clock_quiet p sound)

-- it does not look at page numbers
pub clock_pages : (new : Bool → ℕ → ℕ) → EmptyStays new → (p : Pool) → clock_choice (repaged_pool new p) ≡ repaged_choice new (clock_choice p)
unfolding clock_choice
clock_pages new stays p =
    ap (λ (r : Option ℕ). pick (on_found r (λ i. true) false) (swept_choice (repaged_pool new p)) (unmoved (repaged_pool new p) None)) (any_repaged new stays p.frames p.settings.frames)
    ∙ go (some_unpinned p)
  where
    go : (b : Bool) → pick b (swept_choice (repaged_pool new p)) (unmoved (repaged_pool new p) None) ≡ repaged_choice new (pick b (swept_choice p) (unmoved p None))
    go true = swept_repaged new stays p
    go false = refl

-- where it finds none it leaves the pool as it was
pub clock_still : (p : Pool) → (clock_choice p).found ≡ None → left_by p (clock_choice p) ≡ p
unfolding swept_choice
clock_still p = clock_cases (λ c. c.found ≡ None → left_by p c ≡ p) p (λ some e. absurd (one_or_none (sweep_of p).0 e)) (λ none e. refl)

clock_sorts : (new : Bool → ℕ → ℕ) → EmptyStays new → (p : Pool) (i j : ℕ) → sooner (repaged_pool new p) i j ≡ sooner p i j
clock_sorts new stays p i j = rw (frame_repaged new stays p.frames i, frame_repaged new stays p.frames j)

pub clock_owes : Owes clock_rule
clock_owes = record { unpinned = clock_unpinned; still = clock_still; lowers = clock_lowers; long = clock_long; quiet = clock_quiet; sound = clock_sound; pages = clock_pages; sorts = clock_sorts }

-- the victim's count after the sweep is 0, and the hand is then one past it
pub clock_rest : (p : Pool) (v : ℕ) → Sound p → (clock_choice p).found ≡ Some v → ((frame_at (clock_choice p).frames v).count ≡ 0) × ((clock_choice p).hand ≡ next_hand p.settings.frames v)
unfolding swept_choice
clock_rest p v sound = clock_cases (λ c. c.found ≡ Some v → ((frame_at c.frames v).count ≡ 0) × (c.hand ≡ next_hand p.settings.frames v)) p
    (λ some e. let z : (sweep_of p).0 ≡ v = cc in
    let r = swept_rests p sound some in
    let low = ((and-eq-true_iff (unpinned (sweep_of p).1 (sweep_of p).0) (eqb (frame_at (sweep_of p).1 (sweep_of p).0).count 0)).0 r.rest).1 in
    subst (λ (x : ℕ). ((frame_at (sweep_of p).1 x).count ≡ 0) × (next_hand p.settings.frames (sweep_of p).0 ≡ next_hand p.settings.frames x)) z (eqb-true (frame_at (sweep_of p).1 (sweep_of p).0).count 0 low, refl))
    (λ none e. absurd (one_or_none v (sym e)))

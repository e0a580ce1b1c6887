-- What WATT owes.
use Rattle.std.proofs.Common.{◌≡◌, ℕ, ◌<◌, Bool, true, false, not, ◌&&◌, ◌||◌, eqb, ltb, ◌⊎◌, refl, ap, ◌∙◌, inl, inr, ltb-true, Option, Some, None}
use mathlib.Core.Bool.{and-eq-true_iff, and-false}
use Rattle.search.specs.Search.{on_found}
use Rattle.search.proofs.Least.{Order, one_or_none, not_both, least_sound, least_none, least_none_of, least_cong, least_least, least_lowest}
use Rattle.worth.specs.Value.{ahead}
use Rattle.pool.specs.declared.Frame.{Frame}
use Rattle.pool.specs.declared.Pool.{Pool}
use Rattle.pool.specs.Pool.{frame_at, now_of}
use Rattle.pool.proofs.Sound.{Sound}
use Rattle.pool.proofs.Quiet.{Quiet, sound_quiet}
use Rattle.victim.specs.Choice.{unpinned, left_by}
use Rattle.victim.specs.Watt.{value_at, less_value, least_value, drawn_frame, watt_victim, watt_choice, watt_rule}
use Rattle.victim.proofs.watt.Values.{value_ordered}
use Rattle.victim.proofs.Owed.{AllPinned, repaged_pool, repaged_choice, EmptyStays, frame_repaged, lowered_same, quiet_of, Owes}

-- it does not look at page numbers; this stands first, so that an order that looks at them is refused here
module _ (new : Bool → ℕ → ℕ) (stays : EmptyStays new) (p : Pool) where
  pub value_repaged : (i : ℕ) → value_at (repaged_pool new p) i ≡ value_at p i
  unfolding value_at now_of
  value_repaged i = rw (frame_repaged new stays p.frames i)

  least_repaged : (counts : ℕ → Bool) → least_value (repaged_pool new p) counts ≡ least_value p counts
  least_repaged counts =
      least_cong (λ i. counts i && unpinned (repaged_pool new p).frames i) (λ i. counts i && unpinned p.frames i) (less_value (repaged_pool new p)) (less_value p) p.settings.frames
      (λ j _. ap (λ (fr : Frame). counts j && eqb fr.pins 0) (frame_repaged new stays p.frames j))
      (λ i j _ _. rw (value_repaged i, value_repaged j))

  victim_repaged : watt_victim (repaged_pool new p) ≡ watt_victim p
  unfolding watt_victim
  victim_repaged = rw (least_repaged (drawn_frame p), least_repaged (λ _. true))

  pub watt_pages : watt_choice (repaged_pool new p) ≡ repaged_choice new (watt_choice p)
  unfolding watt_choice
  watt_pages = rw (victim_repaged)

module _ (p : Pool) where
  -- every drawn frame below f is pinned
  abbrev pub DrawnPinned : Type 0
  DrawnPinned = (i : ℕ) → i < p.settings.frames → drawn_frame p i ≡ true → unpinned p.frames i ≡ false

  -- the two ways to a victim
  victim_cases : (P : Option ℕ → Type 0)
      → ((v : ℕ) → least_value p (drawn_frame p) ≡ Some v → P (Some v))
      → (least_value p (drawn_frame p) ≡ None → P (least_value p (λ _. true)))
      → P (watt_victim p)
  unfolding watt_victim
  victim_cases P g h = go (least_value p (drawn_frame p)) refl
    where
      go : (r : Option ℕ) → least_value p (drawn_frame p) ≡ r → P (on_found r Some (least_value p (λ _. true)))
      go (Some v) e = g v e
      go None e = h e

  abbrev eligible : (ℕ → Bool) → ℕ → Bool
  eligible counts i = counts i && unpinned p.frames i

  found_by : (counts : ℕ → Bool) (v : ℕ) → least_value p counts ≡ Some v → (v < p.settings.frames) × (counts v ≡ true) × (unpinned p.frames v ≡ true)
  found_by counts v h =
      let s = least_sound (eligible counts) (less_value p) p.settings.frames v h in
      let b = (and-eq-true_iff (counts v) (unpinned p.frames v)).0 s.1 in
      (s.0, b.0, b.1)

  none_by : (counts : ℕ → Bool) (i : ℕ) → least_value p counts ≡ None → i < p.settings.frames → counts i ≡ true → unpinned p.frames i ≡ false
  none_by counts i h l t = rw t at (least_none (eligible counts) (less_value p) p.settings.frames i h l)

  -- its victim lies below f and is unpinned
  pub watt_unpinned : (v : ℕ) → (watt_choice p).found ≡ Some v → (v < p.settings.frames) × (unpinned p.frames v ≡ true)
  unfolding watt_choice
  watt_unpinned v =
      victim_cases (λ r. r ≡ Some v → (v < p.settings.frames) × (unpinned p.frames v ≡ true))
      (λ w h e. let s = found_by (drawn_frame p) v (h ∙ e) in (s.0, s.2))
      (λ _ e. let s = found_by (λ _. true) v e in (s.0, s.2))

  -- it finds none exactly where every frame below f is pinned
  pub watt_serves : ((watt_choice p).found ≡ None → AllPinned p) × (AllPinned p → (watt_choice p).found ≡ None)
  unfolding watt_choice
  watt_serves = (
    victim_cases (λ r. r ≡ None → AllPinned p)
        (λ v _ e. absurd (one_or_none v e))
        (λ _ e i l. none_by (λ _. true) i e l refl),
    λ pinned. victim_cases (λ r. r ≡ None)
        (λ v h. let s = found_by (drawn_frame p) v h in absurd (not_both (unpinned p.frames v) s.2 (pinned v s.0)))
        (λ _. least_none_of (eligible (λ _. true)) (less_value p) p.settings.frames pinned),
  )

  -- its victim was drawn, unless every drawn frame is pinned
  pub watt_drawn : (v : ℕ) → (watt_choice p).found ≡ Some v → (drawn_frame p v ≡ true) ⊎ DrawnPinned
  unfolding watt_choice
  watt_drawn v =
      victim_cases (λ r. r ≡ Some v → (drawn_frame p v ≡ true) ⊎ DrawnPinned)
      (λ w h e. inl (found_by (drawn_frame p) v (h ∙ e)).1)
      (λ h _. inr (λ i l t. none_by (drawn_frame p) i h l t))

  ahead_not : (v j : ℕ) → less_value p j v ≡ false → (j < v → less_value p v j ≡ true) → ahead (value_at p) j v ≡ false
  ahead_not v j h g = go (ltb j v) refl
    where
      go : (t : Bool) → ltb j v ≡ t → (less_value p j v || (not (less_value p v j) && t)) ≡ false
      go true e = rw (h, g (ltb-true j v e))
      go false e = rw h (and-false (not (less_value p v j)))

  -- by value is an order
  pub watt_order : Order (less_value p)
  watt_order = value_ordered p

  least_by : (counts : ℕ → Bool) (v j : ℕ) → least_value p counts ≡ Some v → j < p.settings.frames → counts j ≡ true → unpinned p.frames j ≡ true
      → ahead (value_at p) j v ≡ false
  least_by counts v j h l c u =
      let t : eligible counts j ≡ true = rw (c, u) in
      ahead_not v j
      (least_least (eligible counts) (less_value p) watt_order p.settings.frames v j h l t)
      (λ m. least_lowest (eligible counts) (less_value p) watt_order p.settings.frames v j h m t)

  -- of the unpinned frames that count as drawn none has a lower value than the victim, nor the same value and a lower number
  pub watt_least : (v j : ℕ) → (watt_choice p).found ≡ Some v → j < p.settings.frames → unpinned p.frames j ≡ true
      → (drawn_frame p j ≡ true) ⊎ DrawnPinned → ahead (value_at p) j v ≡ false
  unfolding watt_choice
  watt_least v j h l u c =
      victim_cases (λ r. r ≡ Some v → ahead (value_at p) j v ≡ false)
      (λ w k e. by_draw (k ∙ e) c)
      (λ _ e. least_by (λ _. true) v j e l refl u)
      h
    where
      by_draw : least_value p (drawn_frame p) ≡ Some v → (drawn_frame p j ≡ true) ⊎ DrawnPinned → ahead (value_at p) j v ≡ false
      by_draw k (inl d) = least_by (drawn_frame p) v j k l d u
      by_draw k (inr g) = let s = found_by (drawn_frame p) v k in absurd (not_both (unpinned p.frames v) s.2 (g v s.0 s.1))

  -- it changes nothing but the sampler number
  pub watt_quiet : Sound p → Quiet p (left_by p (watt_choice p))
  unfolding watt_choice
  watt_quiet s = quiet_of p s (watt_choice p) s.hand (λ i. lowered_same (frame_at p.frames i))

  -- what it leaves is sound
  pub watt_sound : Sound p → Sound (left_by p (watt_choice p))
  watt_sound s = sound_quiet p (left_by p (watt_choice p)) s (watt_quiet s)

-- where it finds none it leaves the pool as it was
pub watt_still : (p : Pool) → (watt_choice p).found ≡ None → left_by p (watt_choice p) ≡ p
unfolding watt_choice
watt_still p h = rw h

watt_sorts : (new : Bool → ℕ → ℕ) → EmptyStays new → (p : Pool) (i j : ℕ) → less_value (repaged_pool new p) i j ≡ less_value p i j
watt_sorts new stays p i j = rw (value_repaged new stays p i, value_repaged new stays p j)

pub watt_owes : Owes watt_rule
unfolding watt_choice
watt_owes = record {
  unpinned = λ p v _. watt_unpinned p v;
  still = watt_still;
  lowers = λ p i. lowered_same (frame_at p.frames i);
  long = λ p. refl;
  quiet = watt_quiet;
  sound = watt_sound;
  pages = watt_pages;
  sorts = watt_sorts;
}

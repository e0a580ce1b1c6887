-- When a record is refused, by which number, and what it leaves then.
use mathlib.Core.Path.{◌≡◌, refl, ap, sym, subst, ◌∙◌}
use mathlib.Core.Bool.{Bool, true, false, not, ◌&&◌}
use mathlib.Core.List.{[]}
use mathlib.Core.Logic.{◌⊎◌, inl, inr, ⊎_elim}
use Prim.Native.Nat.{ℕ, zero, suc, ◌+◌, ◌≤◌, ◌<◌}
use native.Mathlib.Omega.{arith}
use lib.Dec.{eqb, leb}
use borrow.Author.Tests.{le-leb, lt-leb}
use Rattle.std.specs.Prelude.{Option, Some, None}
use Rattle.search.specs.Search.{never}
use Rattle.search.proofs.Least.{least_none_of}
use Rattle.search.proofs.Every.{pick_ind}
use Rattle.refusal.specs.Refusals.{bad_field, no_reference_left, no_frame, not_pinned, pins_full}
use Rattle.pool.specs.declared.Pool.{Pool}
use Rattle.limit.specs.Limits.{reference_limit}
use Rattle.pool.specs.Pool.{frame_at, with_frames}
use Rattle.pool.proofs.Sound.{Sound}
use Rattle.reference.specs.Search.{find_page, unused, lowest_unused}
use Rattle.reference.specs.Reference.{referred, hit_at, fetched_at, pinned_at}
use Rattle.reference.proofs.Keeps.{none_unused}
use Rattle.victim.specs.Choice.{left_by, unpinned}
use Rattle.victim.specs.Rules.{choice_of}
use Rattle.victim.proofs.Rules.{choice_serves}
use Rattle.batch.specs.Batch.{batch_of, cleaned}
use Rattle.tally.specs.Rows.{row, hit, miss_clean, miss_dirty, refused_by}
use Rattle.effect.specs.Record.{Did, did, pin_limit, pins_at, refusal, pinned_where, filled, leaving_of, miss_of, reference_of, unpin_of, record_of}
use Rattle.effect.proofs.Ways.{at_limit, resident, absent, free, full, victim, no_victim, pins_full_lem, pins_free, unpin_absent, unpin_none, unpin_one}

-- an accepted reference: its outcome is a hit or a miss, and k rises by 1
pub record Accepted (p : Pool) (d : Did) : Type 0 where
  pub outcome : d.row.outcome ≤ 3
  pub k : d.pool.k ≡ p.k + 1

pinned_k : (p q : Pool) (pin : Bool) (i : ℕ) → q.k ≡ p.k + 1 → (pinned_where q pin i).k ≡ p.k + 1
unfolding pinned_at
pinned_k p q true i e = e
pinned_k p q false i e = e

filled_k : (p q : Pool) (i page : ℕ) (write pin : Bool) → q.k ≡ p.k → (filled q i page write pin).k ≡ p.k + 1
unfolding fetched_at referred
filled_k p q i page write pin e = pinned_k p (fetched_at q i page write) pin i (ap (λ (n : ℕ). n + 1) e)

hit_accepted : (p : Pool) (i : ℕ) (write pin : Bool) → Accepted p (did (row hit i 0 0) [] (pinned_where (hit_at p i write) pin i))
unfolding hit_at referred
hit_accepted p i write pin = record { outcome = omega arith; k = pinned_k p (hit_at p i write) pin i refl }

leaving_accepted : (p q : Pool) (v page : ℕ) (write pin : Bool) → q.k ≡ p.k → Accepted p (leaving_of q v page write pin)
unfolding leaving_of
leaving_accepted p q v page write pin e = record {
  outcome = pick_ind (λ n. n ≤ 3) (frame_at q.frames v).dirty miss_dirty miss_clean (λ _. omega arith) (λ _. omega arith);
  k = filled_k p (with_frames q (cleaned q.frames (batch_of q v))) v page write pin e;
}

-- every frame below f is in use and pinned
abbrev pub EveryPinned : Pool → Type 0
EveryPinned p = (i : ℕ) → i < p.settings.frames → ((frame_at p.frames i).used ≡ true) × (unpinned p.frames i ≡ false)

-- a missed page: accepted, or refused 10 where no frame is unused and the rule finds none
module _ (p : Pool) (page : ℕ) (write pin : Bool) where
  abbrev NoneFound : Type 0
  NoneFound = (miss_of p page write pin ≡ refusal p no_frame) × (lowest_unused p ≡ None) × ((choice_of p).found ≡ None)

  pub miss_answers : Accepted p (miss_of p page write pin) ⊎ NoneFound
  miss_answers = go (lowest_unused p) refl
    where
      chosen : (f : Option ℕ) → lowest_unused p ≡ None → (choice_of p).found ≡ f → Accepted p (miss_of p page write pin) ⊎ NoneFound
      chosen (Some v) none e =
          inl (subst (Accepted p) (sym (full p page write pin none ∙ victim p page write pin (choice_of p) v refl e)) (leaving_accepted p (left_by p (choice_of p)) v page write pin refl))
      chosen None none e = inr (full p page write pin none ∙ no_victim p page write pin e, none, e)

      go : (f : Option ℕ) → lowest_unused p ≡ f → Accepted p (miss_of p page write pin) ⊎ NoneFound
      go (Some i) e = inl (subst (Accepted p) (sym (free p page write pin i e)) (record { outcome = omega arith; k = filled_k p p i page write pin refl }))
      go None e = chosen (choice_of p).found e refl

  -- in a sound pool that is where every frame below f is in use and pinned
  module _ (s : Sound p) where
    pub none_pinned : NoneFound → EveryPinned p
    none_pinned n i l = (none_unused p n.1 i l, (choice_serves p s).0 n.2 i l)

    pub miss_refused : EveryPinned p → miss_of p page write pin ≡ refusal p no_frame
    unfolding lowest_unused
    miss_refused h =
        full p page write pin (least_none_of (unused p.frames) never p.settings.frames (λ i l. ap not (h i l).0))
        ∙ no_victim p page write pin ((choice_serves p s).1 (λ i l. (h i l).1))

-- a read, a write or a pin
pub kind_reference : (p : Pool) (page kind : ℕ) → kind ≤ 2 → record_of p page kind ≡ reference_of p page (eqb kind 1) (eqb kind 2)
unfolding record_of
kind_reference p page zero l = refl
kind_reference p page (suc zero) l = refl
kind_reference p page (suc (suc zero)) l = refl
kind_reference p page (suc (suc (suc kind))) l = absurd (omega arith)

module _ (p : Pool) (page kind : ℕ) (l : kind ≤ 2) where
  -- 9: k is 50,000 at a reference
  pub limit_refuses : reference_limit ≤ p.k → record_of p page kind ≡ refusal p no_reference_left
  limit_refuses h = kind_reference p page kind l ∙ at_limit p page (eqb kind 1) (eqb kind 2) (le-leb reference_limit p.k h)

  module _ (room : p.k < reference_limit) where
    -- a resident page: accepted, or refused 12, and that exactly where it is to be pinned and its pin count is full
    pub hit_answers : (i : ℕ) → find_page p.frames page ≡ Some i
        → ((eqb kind 2 && eqb (pins_at p i) pin_limit) ≡ true → record_of p page kind ≡ refusal p pins_full) × ((eqb kind 2 && eqb (pins_at p i) pin_limit) ≡ false → Accepted p (record_of p page kind))
    hit_answers i a =
        let e = kind_reference p page kind l ∙ resident p page (eqb kind 1) (eqb kind 2) i (lt-leb reference_limit p.k room) a in (
          λ t. e ∙ pins_full_lem p i (eqb kind 1) (eqb kind 2) t,
          λ t. subst (Accepted p) (sym (e ∙ pins_free p i (eqb kind 1) (eqb kind 2) t)) (hit_accepted p i (eqb kind 1) (eqb kind 2)),
        )

    module _ (a : find_page p.frames page ≡ None) where
      as_miss : record_of p page kind ≡ miss_of p page (eqb kind 1) (eqb kind 2)
      as_miss = kind_reference p page kind l ∙ absent p page (eqb kind 1) (eqb kind 2) (lt-leb reference_limit p.k room) a

      -- within the reference limit a missed page is refused for want of a frame exactly when every frame is pinned
      pub no_frame_only : Sound p → (record_of p page kind).row.outcome ≡ refused_by no_frame → EveryPinned p
      no_frame_only s h = ⊎_elim {C = EveryPinned p} (λ q. absurd (low q)) (none_pinned p page (eqb kind 1) (eqb kind 2) s) (miss_answers p page (eqb kind 1) (eqb kind 2))
        where
          low : Accepted p (miss_of p page (eqb kind 1) (eqb kind 2)) → ⊥
          low q = let n = q.outcome in let m = sym (ap (λ (d : Did). d.row.outcome) as_miss) ∙ h in omega arith

      pub no_frame_where : Sound p → EveryPinned p → record_of p page kind ≡ refusal p no_frame
      no_frame_where s h = as_miss ∙ miss_refused p page (eqb kind 1) (eqb kind 2) s h

      -- and otherwise it is accepted
      pub miss_accepted : ((record_of p page kind).row.outcome ≡ refused_by no_frame → ⊥) → Accepted p (record_of p page kind)
      miss_accepted h =
          ⊎_elim {C = Accepted p (record_of p page kind)} (λ q. subst (Accepted p) (sym as_miss) q)
          (λ q. absurd (h (ap (λ (d : Did). d.row.outcome) (as_miss ∙ q.0)))) (miss_answers p page (eqb kind 1) (eqb kind 2))

-- a record that is refused leaves the pool unchanged and writes nothing
pub record Refused (p : Pool) (d : Did) : Type 0 where
  pub number : ℕ
  pub same : d ≡ refusal p number

abbrev Answer : Pool → Did → Type 0
Answer p d = Refused p d ⊎ (d.row.outcome < 100)

-- a reference is refused or accepted
abbrev pub Taken : Pool → Did → Type 0
Taken p d = Refused p d ⊎ Accepted p d

module _ (p : Pool) (page : ℕ) where
  reference_taken : (write pin : Bool) → Taken p (reference_of p page write pin)
  reference_taken write pin = limited (leb reference_limit p.k) refl
    where
      done : (e : Did) → reference_of p page write pin ≡ e → Accepted p e → Taken p (reference_of p page write pin)
      done e h q = inr (subst (Accepted p) (sym h) q)

      pinned : (b : Bool) (i : ℕ) → leb reference_limit p.k ≡ false → find_page p.frames page ≡ Some i → (pin && eqb (pins_at p i) pin_limit) ≡ b → Taken p (reference_of p page write pin)
      pinned true i e a t = inl (record { number = pins_full; same = resident p page write pin i e a ∙ pins_full_lem p i write pin t })
      pinned false i e a t =
          done (did (row hit i 0 0) [] (pinned_where (hit_at p i write) pin i)) (resident p page write pin i e a ∙ pins_free p i write pin t) (hit_accepted p i write pin)

      found : (f : Option ℕ) → leb reference_limit p.k ≡ false → find_page p.frames page ≡ f → Taken p (reference_of p page write pin)
      found (Some i) e a = pinned (pin && eqb (pins_at p i) pin_limit) i e a refl
      found None e a =
          ⊎_elim {C = Taken p (reference_of p page write pin)} (done (miss_of p page write pin) (absent p page write pin e a))
          (λ q. inl (record { number = no_frame; same = absent p page write pin e a ∙ q.0 })) (miss_answers p page write pin)

      limited : (b : Bool) → leb reference_limit p.k ≡ b → Taken p (reference_of p page write pin)
      limited true e = inl (record { number = no_reference_left; same = at_limit p page write pin e })
      limited false e = found (find_page p.frames page) e refl

  -- a read, a write or a pin
  pub record_taken : (kind : ℕ) → kind ≤ 2 → Taken p (record_of p page kind)
  record_taken kind l = subst (Taken p) (sym (kind_reference p page kind l)) (reference_taken (eqb kind 1) (eqb kind 2))

  reference_answer : (write pin : Bool) → Answer p (reference_of p page write pin)
  reference_answer write pin =
      ⊎_elim {C = Answer p (reference_of p page write pin)} (λ q. inl q) (λ q. inr (let n = q.outcome in omega arith)) (reference_taken write pin)

  unpin_answer : Answer p (unpin_of p page)
  unpin_answer = found (find_page p.frames page) refl
    where
      pinned : (b : Bool) (i : ℕ) → find_page p.frames page ≡ Some i → eqb (pins_at p i) 0 ≡ b → Answer p (unpin_of p page)
      pinned true i a t = inl (record { number = not_pinned; same = unpin_none p page i a t })
      pinned false i a t = inr (let m = ap (λ (x : Did). x.row.outcome) (unpin_one p page i a t) in omega arith)

      found : (f : Option ℕ) → find_page p.frames page ≡ f → Answer p (unpin_of p page)
      found (Some i) a = pinned (eqb (pins_at p i) 0) i a refl
      found None a = inl (record { number = not_pinned; same = unpin_absent p page a })

  record_answer : (kind : ℕ) → Answer p (record_of p page kind)
  unfolding record_of
  record_answer zero = reference_answer false false
  record_answer (suc zero) = reference_answer true false
  record_answer (suc (suc zero)) = reference_answer false true
  record_answer (suc (suc (suc zero))) = unpin_answer
  record_answer (suc (suc (suc (suc kind)))) = inl (record { number = bad_field; same = refl })

  -- a refused record leaves the pool unchanged, hand and sampler too, and fills its row
  pub refused_still : (kind : ℕ) → 100 ≤ (record_of p page kind).row.outcome → Refused p (record_of p page kind)
  refused_still kind h = ⊎_elim {C = Refused p (record_of p page kind)} (λ q. q) (λ q. absurd (omega arith)) (record_answer kind)

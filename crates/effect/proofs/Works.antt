-- A record worked in place is what `record_of` says.
use mathlib.Core.Path.{◌≡◌, refl, ap, sym, subst, ◌∙◌}
use mathlib.Core.Bool.{Bool, true, false, ◌&&◌}
use mathlib.Core.List.{List, []}
use Prim.Native.Nat.{ℕ, zero, suc, ◌+◌, ◌≤◌, ◌<◌}
use native.Mathlib.Omega.{arith}
use lib.ListN.{length}
use lib.Seq.{sets}
use lib.Dec.{eqb, leb}
use borrow.Author.Tests.{eqb-true, eqb-false}
use Rattle.std.specs.Prelude.{Option, Some, None}
use Rattle.search.specs.Search.{pick, on_found}
use Rattle.search.proofs.Every.{pick_ind}
use Rattle.refusal.specs.Refusals.{bad_field, no_reference_left, no_frame, not_pinned, pins_full}
use Rattle.settings.proofs.Laws.{ranges}
use Rattle.pool.specs.declared.Pool.{Pool}
use Rattle.limit.specs.Limits.{reference_limit}
use Rattle.pool.specs.Pool.{frame_at, with_frames}
use Rattle.pool.specs.Sound.{sound_pool}
use Rattle.pool.proofs.Sound.{Sound, told, made}
use Rattle.pool.proofs.Sizes.{Sized}
use Rattle.table.specs.declared.Bench.{Bench}
use Rattle.table.specs.Table.{pool_on}
use Rattle.table.proofs.Held.{frames_long}
use Rattle.reference.specs.Search.{find_page, lowest_unused}
use Rattle.reference.specs.Reference.{hit_at, unpinned_at}
use Rattle.victim.specs.Choice.{left_by}
use Rattle.victim.specs.Rules.{choice_of}
use Rattle.victim.proofs.Rules.{choice_owes, choice_sized}
use Rattle.batch.specs.Batch.{batch_of, cleaned}
use Rattle.batch.proofs.Laws.{batch_sized}
use Rattle.tally.specs.declared.Row.{Row}
use Rattle.tally.specs.Rows.{row, hit, miss_unused, miss_clean, miss_dirty, unpin_done, refused_row}
use Rattle.effect.specs.Record.{Did, did, pin_limit, pins_at, refusal, pinned_where, filled, hit_of, leaving_of, eviction_of, miss_of, reference_of, unpin_of, record_of}
use Rattle.effect.specs.declared.Asked.{Asked}
use Rattle.effect.specs.ForCode.{Effect, Leaves, Plays, Enterable, LogsEnd, Entering, RoomAsked, RoomWhere, settled_hit, settled_miss, settled_reference, settled_unpin, asked_by, settled_by, place_of, room_row, room_pages, room_frames, roomed, wanted, row_where, pages_where, pool_where, entered}
use Rattle.effect.proofs.Settled.{settled_of}
use Rattle.effect.proofs.Ways.{found_few, unused_few, at_limit, resident, absent, free, full, victim, no_victim, pins_full_lem, pins_free, unpin_absent, unpin_none, unpin_one}
use Rattle.effect.proofs.Placed.{entered_hit, entered_free, entered_left, entered_unpin, entered_none}

-- a pool, a row and the pages written, such that entering the row gives what was done
pub record Works (d : Did) (q : Pool) (w : Row) (pages : List ℕ) (page : ℕ) (asks : Asked) : Type 0 where
  pub row : w ≡ d.row
  pub pool : entered q w page asks ≡ d.pool
  pub written : pages ≡ d.written

-- where a victim is wanted and where not
abbrev Way : Pool → Did → Row → ℕ → Asked → Type 0
Way p d w page asks = ((w.outcome ≡ miss_clean → ⊥) → Works d p w [] page asks) × (w.outcome ≡ miss_clean → Works d (roomed p) (room_row p) (room_pages p) page asks)

module _ (p : Pool) (s : Sound p) (z : Sized p) (page : ℕ) (asks : Asked) where
  -- a row that needs no victim
  settled_way : (w : Row) (d : Did) → (w.outcome ≡ miss_clean → ⊥) → w ≡ d.row → entered p w page asks ≡ d.pool → [] ≡ d.written → Way p d w page asks
  settled_way w d ne a b c = (λ _. record { row = a; pool = b; written = c }, λ e. absurd (ne e))

  refused_way : (r : ℕ) → Way p (refusal p r) (refused_row r) page asks
  refused_way r = settled_way (refused_row r) (refusal p r) (λ e. omega arith) refl (entered_none p (100 + r) page asks (omega arith)) refl

  -- making room
  room_found : (v : ℕ) → (choice_of p).found ≡ Some v → Works (leaving_of (left_by p (choice_of p)) v page asks.write asks.pin) (roomed p) (room_row p) (room_pages p) page asks
  unfolding leaving_of room_row room_pages room_frames
  room_found v e =
      let q = left_by p (choice_of p) in
      let r = with_frames q (cleaned q.frames (batch_of q v)) in
      let few = (ranges p.settings s.settings).frames.1 in
      let l = (choice_owes.unpinned p v s e).0 in
      record {
        row = rw e;
        pool = rw e (entered_left r (batch_sized q v (choice_sized p z)) v (omega arith) (frame_at q.frames v).dirty (frame_at q.frames v).page (length (batch_of q v)) page asks);
        written = rw e;
      }

  room_none : (choice_of p).found ≡ None → Works (refusal p no_frame) (roomed p) (room_row p) (room_pages p) page asks
  unfolding room_row room_pages room_frames
  room_none e = record { row = rw e; pool = rw (e, choice_owes.still p e) (entered_none p 110 page asks (omega arith)); written = rw e }

  room_works : Works (eviction_of p page asks.write asks.pin) (roomed p) (room_row p) (room_pages p) page asks
  room_works = go (choice_of p).found refl
    where
      go : (f : Option ℕ) → (choice_of p).found ≡ f → Works (eviction_of p page asks.write asks.pin) (roomed p) (room_row p) (room_pages p) page asks
      go (Some v) e = subst (λ (d : Did). Works d (roomed p) (room_row p) (room_pages p) page asks) (sym (victim p page asks.write asks.pin (choice_of p) v refl e)) (room_found v e)
      go None e = subst (λ (d : Did). Works d (roomed p) (room_row p) (room_pages p) page asks) (sym (no_victim p page asks.write asks.pin e)) (room_none e)

  -- a way carries over to equal rows and effects
  same_way : (d e : Did) (w v : Row) → d ≡ e → w ≡ v → Way p e v page asks → Way p d w page asks
  same_way d e w v h k x = rw (h, k) x

  abbrev write : Bool
  write = asks.write

  abbrev pin : Bool
  pin = asks.pin

  hit_way : (i : ℕ) → i < 128 → Way p (hit_of p i write pin) (settled_hit (pins_at p i) i pin) page asks
  hit_way i l = go (pin && eqb (pins_at p i) pin_limit) refl
    where
      go : (b : Bool) → (pin && eqb (pins_at p i) pin_limit) ≡ b → Way p (hit_of p i write pin) (settled_hit (pins_at p i) i pin) page asks
      go true e = same_way (hit_of p i write pin) (refusal p pins_full) (settled_hit (pins_at p i) i pin) (refused_row pins_full) (pins_full_lem p i write pin e) (rw e) (refused_way pins_full)
      go false e =
          same_way (hit_of p i write pin) (did (row hit i 0 0) [] (pinned_where (hit_at p i write) pin i)) (settled_hit (pins_at p i) i pin) (row hit i 0 0) (pins_free p i write pin e) (rw e)
          (settled_way (row hit i 0 0) (did (row hit i 0 0) [] (pinned_where (hit_at p i write) pin i)) (λ q. omega arith) refl (entered_hit p z i l page asks e) refl)

  miss_way : Way p (miss_of p page write pin) (settled_miss (lowest_unused p)) page asks
  miss_way = go (lowest_unused p) refl
    where
      go : (f : Option ℕ) → lowest_unused p ≡ f → Way p (miss_of p page write pin) (settled_miss (lowest_unused p)) page asks
      go (Some i) e =
          same_way (miss_of p page write pin) (did (row miss_unused i 0 0) [] (filled p i page write pin)) (settled_miss (lowest_unused p)) (row miss_unused i 0 0) (free p page write pin i e) (rw e)
          (settled_way (row miss_unused i 0 0) (did (row miss_unused i 0 0) [] (filled p i page write pin)) (λ q. omega arith) refl (entered_free p z i (unused_few p i (made p s) e) page asks) refl)
      go None e =
          same_way (miss_of p page write pin) (eviction_of p page write pin) (settled_miss (lowest_unused p)) (row miss_clean 0 0 0) (full p page write pin e) (rw e)
          (λ ne. absurd (ne refl), λ _. room_works)

  abbrev place : Option ℕ
  place = find_page p.frames page

  abbrev settled_ref : Row
  settled_ref = settled_reference p.k place (pins_at p (place_of place)) (lowest_unused p) pin

  reference_way : Way p (reference_of p page write pin) settled_ref page asks
  unfolding settled_reference
  reference_way = limited (leb reference_limit p.k) refl
    where
      found : (f : Option ℕ) → leb reference_limit p.k ≡ false → place ≡ f → Way p (reference_of p page write pin) settled_ref page asks
      found (Some i) e a = same_way (reference_of p page write pin) (hit_of p i write pin) settled_ref (settled_hit (pins_at p i) i pin) (resident p page write pin i e a) (rw (e, a)) (hit_way i (found_few p.frames page i a))
      found None e a = same_way (reference_of p page write pin) (miss_of p page write pin) settled_ref (settled_miss (lowest_unused p)) (absent p page write pin e a) (rw (e, a)) miss_way

      limited : (b : Bool) → leb reference_limit p.k ≡ b → Way p (reference_of p page write pin) settled_ref page asks
      limited true e = same_way (reference_of p page write pin) (refusal p no_reference_left) settled_ref (refused_row no_reference_left) (at_limit p page write pin e) (rw e) (refused_way no_reference_left)
      limited false e = found place e refl

  abbrev settled_off : Row
  settled_off = settled_unpin place (pins_at p (place_of place))

  unpin_way : Way p (unpin_of p page) settled_off page asks
  unfolding settled_unpin
  unpin_way = found place refl
    where
      pinned : (b : Bool) (i : ℕ) → place ≡ Some i → eqb (pins_at p i) 0 ≡ b → Way p (unpin_of p page) settled_off page asks
      pinned true i a e = same_way (unpin_of p page) (refusal p not_pinned) settled_off (refused_row not_pinned) (unpin_none p page i a e) (rw (a, e)) (refused_way not_pinned)
      pinned false i a e =
          same_way (unpin_of p page) (did (row unpin_done i 0 0) [] (unpinned_at p i)) settled_off (row unpin_done i 0 0) (unpin_one p page i a e) (rw (a, e))
          (settled_way (row unpin_done i 0 0) (did (row unpin_done i 0 0) [] (unpinned_at p i)) (λ q. omega arith) refl (entered_unpin p i page asks) refl)

      found : (f : Option ℕ) → place ≡ f → Way p (unpin_of p page) settled_off page asks
      found (Some i) a = pinned (eqb (pins_at p i) 0) i a refl
      found None a = same_way (unpin_of p page) (refusal p not_pinned) settled_off (refused_row not_pinned) (unpin_absent p page a) (rw a) (refused_way not_pinned)

record_way : (p : Pool) (s : Sound p) (z : Sized p) (page kind : ℕ) → Way p (record_of p page kind) (settled_of p page kind) page (asked_by kind)
unfolding record_of settled_by
record_way p s z page zero = reference_way p s z page (asked_by 0)
record_way p s z page (suc zero) = reference_way p s z page (asked_by 1)
record_way p s z page (suc (suc zero)) = reference_way p s z page (asked_by 2)
record_way p s z page (suc (suc (suc zero))) = unpin_way p s z page (asked_by 3)
record_way p s z page (suc (suc (suc (suc kind)))) = refused_way p s z page (asked_by (suc (suc (suc (suc kind))))) bad_field

-- with the row settled and room made where it is wanted, the record is entered
pub worked_is : (p : Pool) (s : Sound p) (z : Sized p) (page kind : ℕ) (w : Row) → w ≡ settled_of p page kind → Works (record_of p page kind) (pool_where p w) (row_where p w) (pages_where p w) page (asked_by kind)
worked_is p s z page kind w e = rw e (go (wanted p (settled_of p page kind)) refl)
  where
    go : (b : Bool) → wanted p (settled_of p page kind) ≡ b → Works (record_of p page kind) (pick b (roomed p) p) (pick b (room_row p) (settled_of p page kind)) (pick b (room_pages p) []) page (asked_by kind)
    go true q = (record_way p s z page kind).1 (eqb-true (settled_of p page kind).outcome miss_clean q)
    go false q = (record_way p s z page kind).0 (eqb-false (settled_of p page kind).outcome miss_clean q)

row_and_pool : (w v : Row) (q r : Pool) → w ≡ v → q ≡ r → ◌≡◌ {A = Effect} (record { row = w; pool = q }) (record { row = v; pool = r })
row_and_pool w v q r e f = rw (e, f)

-- a sound pool may be entered
pub enterable : (p : Pool) (i : ℕ) → Sound p → i < 128 → Enterable p i
enterable p i s l =
    let r = ranges p.settings s.settings in
    record { frame = l; span = r.span.0; cap = r.cap.1; few = s.few }

pub logs_end : (p : Pool) (i : ℕ) → Sound p → i < 128 → LogsEnd p i
logs_end p i s l = record { access = (s.frame i l).access.rest; write = (s.frame i l).write.rest }

-- the pool on a bench with all its log places is of the right size
pub sized_on : (b : Bench) → length b.access ≡ 1024 → length b.write ≡ 512 → Sized (pool_on b)
sized_on b x y = record { frames = frames_long b.table 128; access = x; write = y }

-- a victim is wanted of no hit
no_hit : (p : Pool) → (room_row p).outcome ≡ hit → ⊥
unfolding room_row
no_hit p e = go (choice_of p).found refl e
  where
    go : (f : Option ℕ) → (choice_of p).found ≡ f → (on_found f (λ v. row (pick (frame_at (choice_of p).frames v).dirty miss_dirty miss_clean) v (frame_at (choice_of p).frames v).page (length (batch_of (left_by p (choice_of p)) v))) (refused_row no_frame)).outcome ≡ hit → ⊥
    go (Some v) a q = pick_ind (λ n. n ≡ hit → ⊥) (frame_at (choice_of p).frames v).dirty miss_dirty miss_clean (λ _ x. omega arith) (λ _ x. omega arith) q
    go None a q = omega arith

-- what a settled row asks
module _ (p : Pool) (s : sound_pool p ≡ true) (z : Sized p) (page kind at : ℕ) (w : Row) (e : w ≡ settled_of p page kind) where
  pub room_asked : (places : ℕ) → w.frame < 128 → Plays p (record_of p page kind) at places → RoomAsked p w at places
  room_asked places l h = record {
    sound = s;
    frame = l;
    room = subst (λ (x : List ℕ). at + length x ≤ places) (sym (worked_is p (told p s) z page kind w e).written) h.room;
  }

  -- and once there is room it may be entered
  module _ (r : Row) (b : Bench) (before after : List ℕ) (m : RoomWhere p w at r b before after) where
    pub room_enterable : Entering (pool_on b) r
    room_enterable = rw m.pool (go (wanted p w) refl)
      where
        go : (b : Bool) → wanted p w ≡ b → Entering (pick b (roomed p) p) r
        go true b =
            let a = enterable p r.frame (told p s) m.frame in (
              record { frame = a.frame; span = a.span; cap = a.cap; few = a.few },
              λ h. absurd (no_hit p (sym (ap (λ (x : Row). x.outcome) (m.row ∙ ap (λ (c : Bool). pick c (room_row p) w) b)) ∙ h)),
            )
        go false b = (enterable p r.frame (told p s) m.frame, λ _. logs_end p r.frame (told p s) m.frame)

    -- what is left then is what the record leaves
    pub played : (asks : Asked) (b' : Bench) → asks ≡ asked_by kind → pool_on b' ≡ entered (pool_on b) r page asks → Leaves (record_of p page kind) at r b' before after
    played asks b' a h =
        let k = worked_is p (told p s) z page kind w e in
        record {
          effect = row_and_pool r (record_of p page kind).row (pool_on b') (record_of p page kind).pool (m.row ∙ k.row) (h ∙ rw (a, m.pool, m.row) k.pool);
          list = m.list ∙ ap (sets before at) k.written;
        }

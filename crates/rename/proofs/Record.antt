-- A record of a renamed page does to a renamed pool what it did, renamed.
use mathlib.Core.Path.{◌≡◌, refl, ap, sym, ◌∙◌}
use mathlib.Core.Bool.{Bool, true, false, ◌&&◌, and-false}
use mathlib.Core.List.{List, [], map}
use Prim.Native.Nat.{ℕ, zero, suc, ◌<◌}
use native.Mathlib.Omega.{arith}
use lib.ListN.{length}
use lib.Dec.{eqb, leb}
use borrow.Author.Tests.{lt-leb}
use Rattle.refusal.specs.Refusals.{bad_field, no_reference_left, no_frame, not_pinned, pins_full}
use Rattle.std.specs.Prelude.{Option, Some, None}
use Rattle.search.specs.Search.{pick, among}
use Rattle.search.proofs.Among.{All, all_for}
use Rattle.settings.proofs.Laws.{ranges}
use Rattle.pool.specs.declared.Frame.{Frame}
use Rattle.pool.specs.declared.Pool.{Pool}
use Rattle.limit.specs.Limits.{reference_limit}
use Rattle.pool.specs.Pool.{frame_at, with_frames}
use Rattle.pool.proofs.Sound.{Sound, dirty_used}
use Rattle.reference.specs.Search.{find_page, lowest_unused}
use Rattle.reference.specs.Reference.{hit_at}
use Rattle.reference.proofs.Keeps.{none_unused}
use Rattle.victim.specs.Choice.{Choice, left_by}
use Rattle.victim.specs.Rules.{choice_of}
use Rattle.victim.proofs.Owed.{repaged_choice}
use Rattle.victim.proofs.Rules.{choice_owes}
use Rattle.batch.specs.Batch.{batch_of, cleaned, pages_of}
use Rattle.batch.proofs.Pages.{batch_repaged, cleaned_repaged}
use Rattle.tally.specs.declared.Row.{Row}
use Rattle.tally.specs.Rows.{row, hit, miss_unused, miss_clean, miss_dirty, unpin_done, refused_by, refused_row}
use Rattle.effect.specs.Record.{Did, did, pin_limit, pins_at, refusal, pinned_where, hit_of, leaving_of, eviction_of, miss_of, reference_of, unpin_of, record_of}
use Rattle.effect.proofs.Ways.{at_limit, resident, absent, free, full, victim, no_victim, pins_full_lem, pins_free, unpin_absent, unpin_none, unpin_one}
use Rattle.effect.proofs.Dirty.{batch_due}
use Rattle.rename.specs.Renamed.{renamed_pages, held_page, renamed_frame, renamed_pool, renamed_row}
use Rattle.rename.specs.Sameness.{Renames}
use Rattle.rename.proofs.Frames.{frame_renamed, page_renamed, pages_renamed, unused_renamed, AllListed, find_renamed}
use Rattle.rename.proofs.Reference.{hit_renamed, unpin_renamed, pinned_renamed, filled_renamed}

-- what a record did, renamed
abbrev pub renamed_did : (ℕ → ℕ) → Did → Did
renamed_did ρ d = did (renamed_row ρ d.row) (renamed_pages ρ d.written) (renamed_pool ρ d.pool)

-- no page left in the row of a refused record
pub refused_row_lem : (ρ : ℕ → ℕ) (r : ℕ) → refused_row r ≡ renamed_row ρ (refused_row r)
refused_row_lem ρ r =
    ap (λ (b : Bool). row (refused_by r) 0 (pick b (ρ 0) 0) 0)
    (sym (ap (λ (b : Bool). leb miss_clean (refused_by r) && b) (lt-leb (refused_by r) miss_dirty (omega arith)) ∙ and-false (leb miss_clean (refused_by r))))

-- the page that leaves is renamed, clean or dirty
left_renamed : (ρ : ℕ → ℕ) (dirty : Bool) (v page n : ℕ) → row (pick dirty miss_dirty miss_clean) v (ρ page) n ≡ renamed_row ρ (row (pick dirty miss_dirty miss_clean) v page n)
left_renamed ρ true v page n = refl
left_renamed ρ false v page n = refl

module _ (ρ : ℕ → ℕ) (p : Pool) where
  abbrev q : Pool
  q = renamed_pool ρ p

  refusal_renamed : (r : ℕ) → refusal q r ≡ renamed_did ρ (refusal p r)
  refusal_renamed r = ap (λ (w : Row). did w [] q) (refused_row_lem ρ r)

  pins_renamed : (i : ℕ) → pins_at q i ≡ pins_at p i
  pins_renamed i = ap (λ (fr : Frame). fr.pins) (frame_renamed ρ p.frames i)

  hit_of_renamed : (i : ℕ) (write pin : Bool) → hit_of q i write pin ≡ renamed_did ρ (hit_of p i write pin)
  hit_of_renamed i write pin = go (pin && eqb (pins_at p i) pin_limit) refl
    where
      same : (pin && eqb (pins_at q i) pin_limit) ≡ (pin && eqb (pins_at p i) pin_limit)
      same = ap (λ (n : ℕ). pin && eqb n pin_limit) (pins_renamed i)

      go : (b : Bool) → (pin && eqb (pins_at p i) pin_limit) ≡ b → hit_of q i write pin ≡ renamed_did ρ (hit_of p i write pin)
      go true e = pins_full_lem q i write pin (same ∙ e) ∙ refusal_renamed pins_full ∙ sym (ap (renamed_did ρ) (pins_full_lem p i write pin e))
      go false e =
          pins_free q i write pin (same ∙ e)
          ∙ ap (did (row hit i 0 0) []) (ap (λ (r : Pool). pinned_where r pin i) (hit_renamed ρ p i write) ∙ pinned_renamed ρ (hit_at p i write) i pin)
          ∙ sym (ap (renamed_did ρ) (pins_free p i write pin e))

-- victim v of a sound pool, in use
module _ (ρ : ℕ → ℕ) (p : Pool) (s : Sound p) (v : ℕ) (few : v < 128) (used : (frame_at p.frames v).used ≡ true) where
  abbrev fs : List Frame
  fs = p.frames

  abbrev b : List ℕ
  b = batch_of p v

  batch_used : All (λ i. (frame_at fs i).used ≡ true) b
  batch_used = all_for (λ i. (i < 128) × ((frame_at fs i).dirty ≡ true)) (λ i. (frame_at fs i).used ≡ true) b (batch_due p s v few).1 (λ i d. dirty_used p s i d.0 d.1)

  left_row : row (pick (frame_at (map (renamed_frame ρ) fs) v).dirty miss_dirty miss_clean) v (frame_at (map (renamed_frame ρ) fs) v).page (length b)
      ≡ renamed_row ρ (row (pick (frame_at fs v).dirty miss_dirty miss_clean) v (frame_at fs v).page (length b))
  left_row =
      ap (λ (fr : Frame). row (pick fr.dirty miss_dirty miss_clean) v (frame_at (map (renamed_frame ρ) fs) v).page (length b)) (frame_renamed ρ fs v)
      ∙ ap (λ (page : ℕ). row (pick (frame_at fs v).dirty miss_dirty miss_clean) v page (length b)) (page_renamed ρ fs v used)
      ∙ left_renamed ρ (frame_at fs v).dirty v (frame_at fs v).page (length b)

  leaving_renamed : (page : ℕ) (write pin : Bool) → leaving_of (renamed_pool ρ p) v (ρ page) write pin ≡ renamed_did ρ (leaving_of p v page write pin)
  unfolding leaving_of
  leaving_renamed page write pin =
      rw (batch_repaged (held_page ρ) refl p v, left_row, pages_renamed ρ fs b batch_used, cleaned_repaged (held_page ρ) refl fs b)
      (ap (did (renamed_row ρ (row (pick (frame_at fs v).dirty miss_dirty miss_clean) v (frame_at fs v).page (length b))) (renamed_pages ρ (pages_of fs b)))
      (filled_renamed ρ (with_frames p (cleaned fs b)) v write page pin))

module _ (ρ : ℕ → ℕ) (p : Pool) (s : Sound p) (page : ℕ) (write pin : Bool) where
  abbrev r : Pool
  r = renamed_pool ρ p

  -- the rule chooses the same
  chosen : choice_of r ≡ repaged_choice (held_page ρ) (choice_of p)
  chosen = choice_owes.pages (held_page ρ) refl p

  eviction_renamed : lowest_unused p ≡ None → eviction_of r (ρ page) write pin ≡ renamed_did ρ (eviction_of p page write pin)
  eviction_renamed none = go (choice_of p).found refl
    where
      go : (f : Option ℕ) → (choice_of p).found ≡ f → eviction_of r (ρ page) write pin ≡ renamed_did ρ (eviction_of p page write pin)
      go (Some v) e =
          let below = (choice_owes.unpinned p v s e).0 in
          let few = (ranges p.settings s.settings).frames.1 in
          let used = ap (λ (fr : Frame). fr.used) (choice_owes.lowers p v).kept ∙ none_unused p none v below in
          victim r (ρ page) write pin (repaged_choice (held_page ρ) (choice_of p)) v (sym chosen) e
          ∙ leaving_renamed ρ (left_by p (choice_of p)) (choice_owes.sound p s) v (omega arith) used page write pin
          ∙ sym (ap (renamed_did ρ) (victim p page write pin (choice_of p) v refl e))
      go None e =
          no_victim r (ρ page) write pin (ap (λ (c : Choice). c.found) chosen ∙ e)
          ∙ refusal_renamed ρ p no_frame
          ∙ sym (ap (renamed_did ρ) (no_victim p page write pin e))

  miss_renamed : miss_of r (ρ page) write pin ≡ renamed_did ρ (miss_of p page write pin)
  miss_renamed = go (lowest_unused p) refl
    where
      go : (f : Option ℕ) → lowest_unused p ≡ f → miss_of r (ρ page) write pin ≡ renamed_did ρ (miss_of p page write pin)
      go (Some i) e =
          free r (ρ page) write pin i (unused_renamed ρ p ∙ e)
          ∙ ap (did (row miss_unused i 0 0) []) (filled_renamed ρ p i write page pin)
          ∙ sym (ap (renamed_did ρ) (free p page write pin i e))
      go None e = full r (ρ page) write pin (unused_renamed ρ p ∙ e) ∙ eviction_renamed e ∙ sym (ap (renamed_did ρ) (full p page write pin e))

module _ (ρ : ℕ → ℕ) (pages : List ℕ) (names : Renames ρ pages) (p : Pool) (s : Sound p) (listed : AllListed pages p.frames) (page : ℕ) (here : among pages page ≡ true) where
  abbrev t : Pool
  t = renamed_pool ρ p

  found : find_page t.frames (ρ page) ≡ find_page p.frames page
  found = find_renamed ρ pages names p.frames listed page here

  reference_renamed : (write pin : Bool) → reference_of t (ρ page) write pin ≡ renamed_did ρ (reference_of p page write pin)
  reference_renamed write pin = go (leb reference_limit p.k) (find_page p.frames page) refl refl
    where
      go : (b : Bool) (f : Option ℕ) → leb reference_limit p.k ≡ b → find_page p.frames page ≡ f → reference_of t (ρ page) write pin ≡ renamed_did ρ (reference_of p page write pin)
      go true f e a = at_limit t (ρ page) write pin e ∙ refusal_renamed ρ p no_reference_left ∙ sym (ap (renamed_did ρ) (at_limit p page write pin e))
      go false (Some i) e a = resident t (ρ page) write pin i e (found ∙ a) ∙ hit_of_renamed ρ p i write pin ∙ sym (ap (renamed_did ρ) (resident p page write pin i e a))
      go false None e a = absent t (ρ page) write pin e (found ∙ a) ∙ miss_renamed ρ p s page write pin ∙ sym (ap (renamed_did ρ) (absent p page write pin e a))

  unpin_of_renamed : unpin_of t (ρ page) ≡ renamed_did ρ (unpin_of p page)
  unpin_of_renamed = go (find_page p.frames page) refl
    where
      one : (b : Bool) (i : ℕ) → find_page p.frames page ≡ Some i → eqb (pins_at p i) 0 ≡ b → unpin_of t (ρ page) ≡ renamed_did ρ (unpin_of p page)
      one true i a e =
          unpin_none t (ρ page) i (found ∙ a) (ap (λ (n : ℕ). eqb n 0) (pins_renamed ρ p i) ∙ e)
          ∙ refusal_renamed ρ p not_pinned
          ∙ sym (ap (renamed_did ρ) (unpin_none p page i a e))
      one false i a e =
          unpin_one t (ρ page) i (found ∙ a) (ap (λ (n : ℕ). eqb n 0) (pins_renamed ρ p i) ∙ e)
          ∙ ap (did (row unpin_done i 0 0) []) (unpin_renamed ρ p i)
          ∙ sym (ap (renamed_did ρ) (unpin_one p page i a e))

      go : (f : Option ℕ) → find_page p.frames page ≡ f → unpin_of t (ρ page) ≡ renamed_did ρ (unpin_of p page)
      go (Some i) a = one (eqb (pins_at p i) 0) i a refl
      go None a = unpin_absent t (ρ page) (found ∙ a) ∙ refusal_renamed ρ p not_pinned ∙ sym (ap (renamed_did ρ) (unpin_absent p page a))

  -- every record
  pub record_renamed : (kind : ℕ) → record_of t (ρ page) kind ≡ renamed_did ρ (record_of p page kind)
  unfolding record_of
  record_renamed zero = reference_renamed false false
  record_renamed (suc zero) = reference_renamed true false
  record_renamed (suc (suc zero)) = reference_renamed false true
  record_renamed (suc (suc (suc zero))) = unpin_of_renamed
  record_renamed (suc (suc (suc (suc kind)))) = refusal_renamed ρ p bad_field

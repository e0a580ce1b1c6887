-- One record of a pool under LRU: the page that it is about moves to the front, and the victim is the last of the first f.
use mathlib.Core.Path.{◌≡◌, refl, ap, sym, subst, ◌∙◌}
use mathlib.Core.Bool.{Bool, true, false, not, ◌&&◌, true≢false}
use mathlib.Core.List.{List, [], ◌∷◌, map}
use Prim.Native.Nat.{ℕ, zero, suc, ◌+◌, ◌-◌, ◌≤◌, ◌<◌}
use native.Mathlib.Omega.{arith}
use native.Mathlib.Decide.{ℕ_discrete}
use lib.ListN.{length, take, length-map}
use lib.Seq.{take_all}
use lib.Dec.{eqb, ltb, leb}
use borrow.Author.Tests.{eq-eqb, lt-ltb, le-ltb, ltb-true, ltb-false, lt-leb}
use Rattle.std.specs.Prelude.{Option, Some, None}
use Rattle.search.specs.Search.{among, never}
use Rattle.search.proofs.Among.{among_map}
use Rattle.search.proofs.Least.{least_sound, first_lowest}
use Rattle.search.proofs.Every.{pick_ind, denied, undenied}
use Rattle.settings.proofs.Laws.{ranges}
use Rattle.pool.specs.declared.Pool.{Pool}
use Rattle.limit.specs.Limits.{reference_limit}
use Rattle.pool.specs.Pool.{frame_at}
use Rattle.pool.proofs.Sound.{Sound}
use Rattle.pool.proofs.Sizes.{Sized}
use Rattle.reference.specs.Search.{find_page, unused, lowest_unused}
use Rattle.reference.specs.Reference.{hit_at, fetched_at}
use Rattle.reference.proofs.Keeps.{find_only, find_used, find_absent, none_unused}
use Rattle.victim.specs.Choice.{Choice, left_by}
use Rattle.victim.specs.Lru.{lru_choice}
use Rattle.victim.specs.Rules.{choice_of}
use Rattle.victim.proofs.Rules.{choice_by, choice_owes, choice_serves}
use Rattle.victim.proofs.lru.Laws.{lru_least}
use Rattle.tally.specs.Rows.{row, hit, miss_unused, miss_clean, miss_dirty, is_hit, is_miss}
use Rattle.effect.specs.Record.{Did, did, leaving_of, miss_of, reference_of, record_of}
use Rattle.effect.proofs.Ways.{resident, absent, free, full, victim, pins_free}
use Rattle.distance.specs.Recent.{without, touched}
use Rattle.recency.specs.Ordered.{Falling, InUse, page_in, last_in, Ordered}
use Rattle.distance.proofs.Stack.{by_test, among_head, among_more, without_absent, without_length, without_other}
use Rattle.recency.proofs.Falling.{map_agree, map_without, map_absent, map_take, falling_at, falling_without, falling_gone, without_least, falling_keep, falling_more}
use Rattle.recency.proofs.Moved.{Moved, hit_moved, fetch_moved, leave_moved}

-- LRU changes nothing
lru_leaves : (p : Pool) → left_by p (lru_choice p) ≡ p
unfolding lru_choice
lru_leaves p = refl

-- no frame is pinned
abbrev pub NonePinned : Pool → Type 0
NonePinned p = (i : ℕ) → i < 128 → (frame_at p.frames i).pins ≡ 0

module _ (p : Pool) (pages : List ℕ) (o : Ordered p pages) where
  in_use_lem : (j : ℕ) → among o.frames j ≡ true → InUse p j
  in_use_lem j a = (falling_at (InUse p) (last_in p) p.k o.frames j o.falls a).0

  -- as many frames as pages
  pub as_many : length o.frames ≡ length pages
  as_many = sym (length-map o.frames (page_in p)) ∙ ap length o.pages_are

  module _ (s : Sound p) (page : ℕ) where
    -- a page that is found is on the list, and one that is not found is not
    pub found_listed : (i : ℕ) → find_page p.frames page ≡ Some i → among pages page ≡ true
    found_listed i e =
        let u = find_used p s page i e in
        subst (λ (l : List ℕ). among l page ≡ true) o.pages_are
        (subst (λ (x : ℕ). among (map (page_in p) o.frames) x ≡ true) u.2 (among_map (page_in p) o.frames i (o.all i u.0 u.1)))

    pub absent_unlisted : find_page p.frames page ≡ None → among pages page ≡ false
    absent_unlisted e =
        subst (λ (l : List ℕ). among l page ≡ false) o.pages_are
        (map_absent (page_in p) page o.frames (λ j a. let u = in_use_lem j a in find_absent p s page j e u.0 u.1))

  -- frame i comes to the front
  module _ (q : Pool) (i page : ℕ) (l : i < 128) (m : Moved p q i page) where
    abbrev rest : List ℕ
    rest = without i o.frames

    apart : (j : ℕ) → among rest j ≡ true → j ≡ i → ⊥
    apart j a e = falling_gone (InUse p) (last_in p) p.k i o.frames o.falls (subst (λ (x : ℕ). among rest x ≡ true) e a)

    still_falls : Falling (InUse q) (last_in q) p.k rest
    still_falls =
        falling_keep (InUse p) (InUse q) (last_in p) (last_in q) p.k rest
        (λ j a u. (u.0, (m.other j (apart j a)).used ∙ u.1))
        (λ j a. (m.other j (apart j a)).last)
        (falling_without (InUse p) (last_in p) p.k i o.frames o.falls)

    pub moved_ordered : (after : List ℕ) → page ∷ map (page_in p) rest ≡ after → i < suc (length rest)
        → ((j : ℕ) → j < 128 → (j ≡ i → ⊥) → (frame_at p.frames j).used ≡ ltb j (suc (length rest))) → Ordered q after
    moved_ordered after e few count = record {
      frames = i ∷ rest;
      falls = let a = m.k in let b = m.last in falling_more (InUse q) (last_in q) q.k i rest (l, m.used) (omega arith) (rw m.last still_falls);
      all = λ j h u. elim (ℕ_discrete j i) [
        | yes e ↦ rw e (among_head i rest)
        | no n ↦ among_more j i rest (without_other i j o.frames n (o.all j h (sym (m.other j n).used ∙ u)))
      ];
      first = λ j h. elim (ℕ_discrete j i) [
        | yes e ↦ rw e (m.used ∙ sym (lt-ltb i (suc (length rest)) few))
        | no n ↦ (m.other j n).used ∙ count j h n
      ];
      pages_are = rw m.held (ap (λ (r : List ℕ). page ∷ r) (map_agree (page_in q) (page_in p) rest (λ j a. (m.other j (apart j a)).page))) ∙ e;
    }

    none_pinned : NonePinned p → NonePinned q
    none_pinned h j few = elim (ℕ_discrete j i) [ yes e ↦ rw e m.pins | no n ↦ (m.other j n).pins ∙ h j few ]

-- what a record of a page did to a pool that held these pages
pub record Went (p : Pool) (page : ℕ) (pages : List ℕ) (d : Did) : Type 0 where
  pub ordered : Ordered d.pool (take p.settings.frames (touched page pages))
  pub k : d.pool.k ≡ p.k + 1
  pub unpinned : NonePinned d.pool
  pub hits : is_hit d.row ≡ among pages page
  pub misses : is_miss d.row ≡ not (among pages page)

module _ (p : Pool) (s : Sound p) (z : Sized p) (none : NonePinned p) (pages : List ℕ) (o : Ordered p pages) (few : length pages ≤ p.settings.frames) (page : ℕ) (write : Bool) where
  went : (d : Did) (i : ℕ) (l : i < 128) (m : Moved p d.pool i page) → page ∷ map (page_in p) (without i o.frames) ≡ take p.settings.frames (touched page pages)
      → i < suc (length (without i o.frames))
      → ((j : ℕ) → j < 128 → (j ≡ i → ⊥) → (frame_at p.frames j).used ≡ ltb j (suc (length (without i o.frames))))
      → is_hit d.row ≡ among pages page → is_miss d.row ≡ not (among pages page) → Went p page pages d
  went d i l m e low count h g = record {
    ordered = moved_ordered p pages o d.pool i page l m (take p.settings.frames (touched page pages)) e low count;
    k = m.k;
    unpinned = none_pinned p pages o d.pool i page l m none;
    hits = h;
    misses = g;
  }

  -- a frame in use is among the first so many, and comes to the front from there
  module _ (i : ℕ) (l : i < 128) (u : (frame_at p.frames i).used ≡ true) where
    here : length o.frames ≡ suc (length (without i o.frames))
    here = without_length i o.frames (o.all i l u)

    here_low : i < suc (length (without i o.frames))
    here_low = subst (λ (n : ℕ). i < n) here (ltb-true i (length o.frames) (sym (o.first i l) ∙ u))

    here_count : (j : ℕ) → j < 128 → (j ≡ i → ⊥) → (frame_at p.frames j).used ≡ ltb j (suc (length (without i o.frames)))
    here_count j h n = o.first j h ∙ ap (ltb j) here

  -- a hit
  module _ (i : ℕ) (e : find_page p.frames page ≡ Some i) where
    hit_pages : page ∷ map (page_in p) (without i o.frames) ≡ take p.settings.frames (touched page pages)
    hit_pages =
        let u = find_used p s page i e in
        let w = without_length page pages (found_listed p pages o s page i e) in
        ap (λ (r : List ℕ). page ∷ r)
        (map_without (page_in p) i o.frames
        (λ j a q. let v = in_use_lem p pages o j a in find_only p s page i j e v.0 (rw v.1 (eq-eqb (frame_at p.frames j).page page (q ∙ u.2))))
        ∙ rw (u.2, o.pages_are))
        ∙ sym (take_all p.settings.frames (touched page pages) (omega arith))

    hit_went : Went p page pages (did (row hit i 0 0) [] (hit_at p i write))
    hit_went =
        let u = find_used p s page i e in
        let a = found_listed p pages o s page i e in
        went (did (row hit i 0 0) [] (hit_at p i write)) i u.0 (hit_moved p z i u.0 page write u.1 u.2 (none i u.0))
        hit_pages (here_low i u.0 u.1) (here_count i u.0 u.1) (sym a) (ap not (sym a))

  -- a miss
  module _ (e : find_page p.frames page ≡ None) where
    new : among pages page ≡ false
    new = absent_unlisted p pages o s page e

    new_touched : touched page pages ≡ page ∷ pages
    new_touched = ap (λ (r : List ℕ). page ∷ r) (without_absent page pages new)

    missed : (d : Did) → is_miss d.row ≡ true → is_miss d.row ≡ not (among pages page)
    missed d h = h ∙ ap not (sym new)

    -- into the lowest unused frame, which is the next
    module _ (i : ℕ) (g : lowest_unused p ≡ Some i) where
      next : (i < p.settings.frames) × ((frame_at p.frames i).used ≡ false)
      unfolding lowest_unused
      next = let w = least_sound (unused p.frames) never p.settings.frames i g in (w.0, denied (frame_at p.frames i).used w.1)

      under : (j : ℕ) → j < i → (frame_at p.frames j).used ≡ true
      unfolding lowest_unused
      under j l = undenied (frame_at p.frames j).used (first_lowest (unused p.frames) p.settings.frames i j g l)

      room : i < 128
      room = let w = next.0 in let f = (ranges p.settings s.settings).frames.1 in omega arith

      is_next : i ≡ length o.frames
      is_next =
          let n = length o.frames in
          let h = room in
          let low : n ≤ i = ltb-false i n (sym (o.first i room) ∙ next.1) in
          let all : n < i → ⊥ = λ l. (let k = ltb-true n n (sym (o.first n (omega arith)) ∙ under n l) in omega arith) in
          by_test (ltb n i) (λ t. absurd (all (ltb-true n i t))) (λ t. let k = ltb-false n i t in omega arith)

      none_out : without i o.frames ≡ o.frames
      none_out = without_absent i o.frames (by_test (among o.frames i) (λ a. absurd (true≢false (sym (in_use_lem p pages o i a).1 ∙ next.1))) (λ a. a))

      free_pages : page ∷ map (page_in p) (without i o.frames) ≡ take p.settings.frames (touched page pages)
      free_pages =
          let n = as_many p pages o in
          let w = next.0 in
          let q = is_next in
          rw (none_out, o.pages_are, new_touched) (sym (take_all p.settings.frames (page ∷ pages) (omega arith)))

      free_count : (j : ℕ) → (j ≡ i → ⊥) → ltb j (length o.frames) ≡ ltb j (suc (length o.frames))
      free_count j ne =
          let n = length o.frames in
          let q = is_next in
          by_test (ltb j n) (λ h. let k = ltb-true j n h in h ∙ sym (lt-ltb j (suc n) (omega arith)))
          (λ h. let k = ltb-false j n h in let f : j ≡ n → ⊥ = λ e. ne (e ∙ sym q) in h ∙ sym (le-ltb j (suc n) (omega (arith, f))))

      free_went : Went p page pages (did (row miss_unused i 0 0) [] (fetched_at p i page write))
      free_went =
          let d = did (row miss_unused i 0 0) [] (fetched_at p i page write) in
          let q = is_next in
          went d i room (fetch_moved p z i room page write) free_pages (rw none_out (omega arith))
          (λ j h ne. rw none_out (o.first j h ∙ free_count j ne)) (sym new) (missed d refl)

    -- into the frame of the victim, which is the last of them
    module _ (lru : p.settings.rule ≡ 0) (g : lowest_unused p ≡ None) where
      chooses : choice_of p ≡ lru_choice p
      chooses = sym (choice_by p (lru_choice p) 0 lru refl)

      leaves : left_by p (choice_of p) ≡ p
      leaves = ap (left_by p) chooses ∙ lru_leaves p

      -- every frame below f is in use
      is_full : length o.frames ≡ p.settings.frames
      is_full =
          let f = p.settings.frames in
          let r = (ranges p.settings s.settings).frames in
          let r0 = r.0 in
          let r1 = r.1 in
          let n = as_many p pages o in
          let k = ltb-true (f - 1) (length o.frames) (sym (o.first (f - 1) (omega arith)) ∙ none_unused p g (f - 1) (omega arith)) in
          omega arith

      module _ (v : ℕ) (c : (choice_of p).found ≡ Some v) where
        below : (v < p.settings.frames) × (v < 128)
        below = let a = (choice_owes.unpinned p v s c).0 in let f = (ranges p.settings s.settings).frames.1 in (a, omega arith)

        least : (j : ℕ) → among o.frames j ≡ true → (frame_at p.frames v).last ≤ (frame_at p.frames j).last
        least j a =
            let u = in_use_lem p pages o j a in
            lru_least p v j (sym (ap (λ (x : Choice). x.found) chooses) ∙ c) ((s.frame j u.0).within u.1) (eq-eqb (frame_at p.frames j).pins 0 (none j u.0))

        in_use_v : (frame_at p.frames v).used ≡ true
        in_use_v = none_unused p g v below.0

        leave_pages : page ∷ map (page_in p) (without v o.frames) ≡ take p.settings.frames (touched page pages)
        leave_pages =
            let n = p.settings.frames - 1 in
            let a = below.0 in
            let f = is_full in
            let e : p.settings.frames ≡ suc n = omega arith in
            ap (λ (r : List ℕ). page ∷ map (page_in p) r)
            (without_least (InUse p) (last_in p) p.k v n o.frames o.falls (o.all v below.1 in_use_v) least (f ∙ e))
            ∙ ap (λ (r : List ℕ). page ∷ r) (map_take (page_in p) n o.frames ∙ ap (take n) o.pages_are)
            ∙ sym (ap (take p.settings.frames) new_touched ∙ ap (λ (m : ℕ). take m (page ∷ pages)) e)

        abbrev left : Did
        left = leaving_of p v page write false

        left_moved : Moved p left.pool v page
        unfolding leaving_of
        left_moved = leave_moved p z v below.1 page write

        left_row : (is_hit left.row ≡ false) × (is_miss left.row ≡ true)
        unfolding leaving_of
        left_row =
            pick_ind (λ (n : ℕ). (eqb n hit ≡ false) × ((leb miss_unused n && leb n miss_dirty) ≡ true)) (frame_at p.frames v).dirty miss_dirty miss_clean (λ _. (refl, refl)) (λ _. (refl, refl))

        left_went : Went p page pages left
        left_went =
            went left v below.1 left_moved leave_pages (here_low v below.1 in_use_v) (here_count v below.1 in_use_v)
            (left_row.0 ∙ sym new) (missed left left_row.1)

      -- and there is one
      some : (choice_of p).found ≡ None → ⊥
      some h =
          let f = (ranges p.settings s.settings).frames.0 in
          true≢false (sym (eq-eqb (frame_at p.frames 0).pins 0 (none 0 (omega arith))) ∙ (choice_serves p s).0 h 0 (omega arith))

      full_went : Went p page pages (miss_of p page write false)
      full_went = chosen (choice_of p).found refl
        where
          chosen : (f : Option ℕ) → (choice_of p).found ≡ f → Went p page pages (miss_of p page write false)
          chosen (Some v) c =
              subst (Went p page pages)
              (sym (full p page write false g ∙ victim p page write false (choice_of p) v refl c ∙ ap (λ (q : Pool). leaving_of q v page write false) leaves))
              (left_went v c)
          chosen None c = absurd (some c)

    miss_went : p.settings.rule ≡ 0 → Went p page pages (miss_of p page write false)
    miss_went lru = go (lowest_unused p) refl
      where
        go : (f : Option ℕ) → lowest_unused p ≡ f → Went p page pages (miss_of p page write false)
        go (Some i) g = subst (Went p page pages) (sym (free p page write false i g)) (free_went i g)
        go None g = full_went lru g

  reference_went : p.settings.rule ≡ 0 → p.k < reference_limit → Went p page pages (reference_of p page write false)
  reference_went lru room = go (find_page p.frames page) refl
    where
      go : (f : Option ℕ) → find_page p.frames page ≡ f → Went p page pages (reference_of p page write false)
      go (Some i) e =
          subst (Went p page pages) (sym (resident p page write false i (lt-leb reference_limit p.k room) e ∙ pins_free p i write false refl)) (hit_went i e)
      go None e = subst (Went p page pages) (sym (absent p page write false (lt-leb reference_limit p.k room) e)) (miss_went e lru)

-- a read or a write: a hit exactly where the page is on the list, and then the first f of the list with the page moved to the front
pub record_went : (p : Pool) → Sound p → Sized p → NonePinned p → p.settings.rule ≡ 0 → p.k < reference_limit
    → (pages : List ℕ) → Ordered p pages → length pages ≤ p.settings.frames → (page kind : ℕ) → kind ≤ 1 → Went p page pages (record_of p page kind)
unfolding record_of
record_went p s z none lru room pages o few page zero l = reference_went p s z none pages o few page false lru room
record_went p s z none lru room pages o few page (suc zero) l = reference_went p s z none pages o few page true lru room
record_went p s z none lru room pages o few page (suc (suc kind)) l = absurd (omega arith)

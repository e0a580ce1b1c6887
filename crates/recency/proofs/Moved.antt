-- What a hit, a fetch and an eviction do to the fields that recency looks at.
use mathlib.Core.Path.{◌≡◌, refl, ap, ◌∙◌}
use mathlib.Core.Bool.{Bool, true, false}
use mathlib.Core.List.{List}
use Prim.Native.Nat.{ℕ, ◌+◌, ◌<◌}
use lib.ListN.{length-set}
use lib.Seq.{get_or-set_same}
use Rattle.search.specs.Search.{pick, among}
use Rattle.pool.specs.declared.Frame.{Frame}
use Rattle.pool.specs.declared.Pool.{Pool}
use Rattle.pool.specs.Pool.{empty_frame, frame_at, with_count, with_frames, with_frame}
use Rattle.pool.proofs.Sizes.{Sized}
use Rattle.reference.specs.Reference.{raised, new_frame, referred_frame, referred, emptied, hit_at, fetched_at}
use Rattle.reference.proofs.Others.{hit_other, fetch_other}
use Rattle.batch.specs.Batch.{clean_frame, cleaned, batch_of}
use Rattle.batch.proofs.Cleaned.{cleaned_at}
use Rattle.batch.proofs.Laws.{batch_sized}

-- a frame before and after, in these fields
pub record Same (fr g : Frame) : Type 0 where
  pub used : g.used ≡ fr.used
  pub page : g.page ≡ fr.page
  pub last : g.last ≡ fr.last
  pub pins : g.pins ≡ fr.pins

same_of : (fr g : Frame) → g ≡ fr → Same fr g
same_of fr g e = record { used = ap (λ (x : Frame). x.used) e; page = ap (λ (x : Frame). x.page) e; last = ap (λ (x : Frame). x.last) e; pins = ap (λ (x : Frame). x.pins) e }

same_then : (fr g h : Frame) → Same fr g → Same g h → Same fr h
same_then fr g h a b = record { used = b.used ∙ a.used; page = b.page ∙ a.page; last = b.last ∙ a.last; pins = b.pins ∙ a.pins }

-- a reference to a page in frame i: the page is there, its last step is the old k, and the other frames are as they were
pub record Moved (p q : Pool) (i page : ℕ) : Type 0 where
  pub k : q.k ≡ p.k + 1
  pub used : (frame_at q.frames i).used ≡ true
  pub held : (frame_at q.frames i).page ≡ page
  pub last : (frame_at q.frames i).last ≡ p.k
  pub pins : (frame_at q.frames i).pins ≡ 0
  pub other : (j : ℕ) → (j ≡ i → ⊥) → Same (frame_at p.frames j) (frame_at q.frames j)

module _ (p : Pool) (z : Sized p) (i : ℕ) (l : i < 128) (page : ℕ) (write : Bool) where
  own : (g : Frame) → frame_at (with_frame p i g).frames i ≡ g
  own g = get_or-set_same p.frames i g empty_frame (rw z.frames l)

  abbrev counted : Frame
  counted = with_count (frame_at p.frames i) (raised p.settings.cap (frame_at p.frames i).count)

  hit_own : frame_at (hit_at p i write).frames i ≡ referred_frame (with_frame p i counted) i write
  unfolding hit_at referred
  hit_own = get_or-set_same (with_frame p i counted).frames i (referred_frame (with_frame p i counted) i write) empty_frame (rw (length-set p.frames i counted, z.frames) l)

  fetch_own : frame_at (fetched_at p i page write).frames i ≡ referred_frame (emptied p i page) i write
  unfolding fetched_at referred
  fetch_own = get_or-set_same (emptied p i page).frames i (referred_frame (emptied p i page) i write) empty_frame (rw (length-set p.frames i (new_frame page), z.frames) l)

  hit_k : (hit_at p i write).k ≡ p.k + 1
  unfolding hit_at referred
  hit_k = refl

  fetch_k : (fetched_at p i page write).k ≡ p.k + 1
  unfolding fetched_at referred
  fetch_k = refl

  -- a hit
  pub hit_moved : (frame_at p.frames i).used ≡ true → (frame_at p.frames i).page ≡ page → (frame_at p.frames i).pins ≡ 0 → Moved p (hit_at p i write) i page
  hit_moved u h n = record {
    k = hit_k;
    used = ap (λ (fr : Frame). fr.used) hit_own ∙ ap (λ (fr : Frame). fr.used) (own counted) ∙ u;
    held = ap (λ (fr : Frame). fr.page) hit_own ∙ ap (λ (fr : Frame). fr.page) (own counted) ∙ h;
    last = ap (λ (fr : Frame). fr.last) hit_own;
    pins = ap (λ (fr : Frame). fr.pins) hit_own ∙ ap (λ (fr : Frame). fr.pins) (own counted) ∙ n;
    other = λ j ne. same_of (frame_at p.frames j) (frame_at (hit_at p i write).frames j) (hit_other p z i j l ne write).frame;
  }

  -- a fetch
  pub fetch_moved : Moved p (fetched_at p i page write) i page
  fetch_moved = record {
    k = fetch_k;
    used = ap (λ (fr : Frame). fr.used) fetch_own ∙ ap (λ (fr : Frame). fr.used) (own (new_frame page));
    held = ap (λ (fr : Frame). fr.page) fetch_own ∙ ap (λ (fr : Frame). fr.page) (own (new_frame page));
    last = ap (λ (fr : Frame). fr.last) fetch_own;
    pins = ap (λ (fr : Frame). fr.pins) fetch_own ∙ ap (λ (fr : Frame). fr.pins) (own (new_frame page));
    other = λ j ne. same_of (frame_at p.frames j) (frame_at (fetched_at p i page write).frames j) (fetch_other p z i j l ne page write).frame;
  }

-- cleaned frames are the same in these fields
cleaned_same : (fs : List Frame) (xs : List ℕ) (j : ℕ) → Same (frame_at fs j) (frame_at (cleaned fs xs) j)
cleaned_same fs xs j = rw (cleaned_at fs xs j) (go (among xs j) (frame_at fs j))
  where
    go : (b : Bool) (fr : Frame) → Same fr (pick b (clean_frame fr) fr)
    go true fr = record { used = refl; page = refl; last = refl; pins = refl }
    go false fr = record { used = refl; page = refl; last = refl; pins = refl }

-- a fetch into the frame of a victim, its batch written
pub leave_moved : (p : Pool) (z : Sized p) (v : ℕ) → v < 128 → (page : ℕ) (write : Bool) → Moved p (fetched_at (with_frames p (cleaned p.frames (batch_of p v))) v page write) v page
leave_moved p z v l page write =
    let r = with_frames p (cleaned p.frames (batch_of p v)) in
    let m = fetch_moved r (batch_sized p v z) v l page write in record {
      k = m.k;
      used = m.used;
      held = m.held;
      last = m.last;
      pins = m.pins;
      other = λ j ne. same_then (frame_at p.frames j) (frame_at r.frames j) (frame_at (fetched_at r v page write).frames j) (cleaned_same p.frames (batch_of p v) j) (m.other j ne);
    }

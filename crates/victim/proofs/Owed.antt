-- What every rule owes: the words in which its laws are stated, and what they share.
use Rattle.std.proofs.Common.{◌≡◌, ℕ, zero, suc, ◌<◌, ◌≤◌, Bool, true, false, eqb, List, [], ◌∷◌, map, length, get_or, set, sym, refl, ap, ◌∙◌, arith, Some, None}
use lib.ListN.{get_or-map}
use Rattle.pool.specs.declared.Frame.{Frame}
use Rattle.pool.specs.declared.Pool.{Pool}
use Rattle.pool.specs.Pool.{frame_at, empty_frame, with_count, with_page, with_frames}
use Rattle.pool.proofs.Sound.{Sound}
use Rattle.pool.proofs.Quiet.{Alike, Quiet}
use Rattle.victim.specs.Choice.{Choice, Rule, unpinned, left_by}

-- every frame below f is pinned
abbrev pub AllPinned : Pool → Type 0
AllPinned p = (i : ℕ) → i < p.settings.frames → unpinned p.frames i ≡ false

-- a frame with another page, whichever: it depends on the page and on whether the frame is in use
abbrev pub repaged : (Bool → ℕ → ℕ) → Frame → Frame
repaged new fr = with_page fr (new fr.used fr.page)

abbrev pub repaged_pool : (Bool → ℕ → ℕ) → Pool → Pool
repaged_pool new p = with_frames p (map (repaged new) p.frames)

abbrev pub repaged_choice : (Bool → ℕ → ℕ) → Choice → Choice
repaged_choice new c = record { found = c.found; hand = c.hand; sampler = c.sampler; frames = map (repaged new) c.frames }

-- the empty frame stays as it is
abbrev pub EmptyStays : (Bool → ℕ → ℕ) → Type 0
EmptyStays new = new false 0 ≡ 0

pub frame_repaged : (new : Bool → ℕ → ℕ) → EmptyStays new → (fs : List Frame) (i : ℕ) → frame_at (map (repaged new) fs) i ≡ repaged new (frame_at fs i)
frame_repaged new e fs i = ap (λ (n : ℕ). get_or (map (repaged new) fs) i (with_page empty_frame n)) (sym e) ∙ get_or-map (repaged new) fs i empty_frame

pub map_set {ℓ} : {A B : Type ℓ} (f : A → B) (l : List A) (i : ℕ) (a : A) → set (map f l) i (f a) ≡ map f (set l i a)
map_set f [] i a = refl
map_set f (x ∷ xs) zero a = refl
map_set {B = B} f (x ∷ xs) (suc i) a = ap (λ (r : List B). f x ∷ r) (map_set f xs i a)

-- a frame after: as before but for its count, which is not raised, and a pinned one untouched
pub record Lowered (fr g : Frame) : Type 0 where
  pub kept : g ≡ with_count fr g.count
  pub low : g.count ≤ fr.count
  pub pinned : eqb fr.pins 0 ≡ false → g ≡ fr

pub lowered_same : (fr : Frame) → Lowered fr fr
lowered_same fr = record { kept = refl; low = omega arith; pinned = λ _. refl }

pub lowered_more : (fr g h : Frame) → Lowered fr g → Lowered g h → Lowered fr h
lowered_more fr g h a b =
    let x = a.low in
    let y = b.low in record {
      kept = b.kept ∙ ap (λ (z : Frame). with_count z h.count) a.kept;
      low = omega arith;
      pinned = λ e. b.pinned (ap (λ (z : Frame). eqb z.pins 0) (a.pinned e) ∙ e) ∙ a.pinned e;
    }

-- it finds none exactly where every frame below f is pinned
abbrev pub Serves : (Pool → Choice) → Type 0
Serves choose = (p : Pool) → ((choose p).found ≡ None → AllPinned p) × (AllPinned p → (choose p).found ≡ None)

-- What each rule owes beside that, one list for all; no rule too.
pub record Owes (rule : Rule) : Type 0 where
  pub unpinned : (p : Pool) (v : ℕ) → Sound p → (rule.choice p).found ≡ Some v → (v < p.settings.frames) × (unpinned p.frames v ≡ true)
  pub still : (p : Pool) → (rule.choice p).found ≡ None → left_by p (rule.choice p) ≡ p
  pub lowers : (p : Pool) (i : ℕ) → Lowered (frame_at p.frames i) (frame_at (rule.choice p).frames i)
  pub long : (p : Pool) → length (rule.choice p).frames ≡ length p.frames
  pub quiet : (p : Pool) → Sound p → Quiet p (left_by p (rule.choice p))
  pub sound : (p : Pool) → Sound p → Sound (left_by p (rule.choice p))
  pub pages : (new : Bool → ℕ → ℕ) → EmptyStays new → (p : Pool) → rule.choice (repaged_pool new p) ≡ repaged_choice new (rule.choice p)
  pub sorts : (new : Bool → ℕ → ℕ) → EmptyStays new → (p : Pool) (i j : ℕ) → rule.order (repaged_pool new p) i j ≡ rule.order p i j

-- a choice that only lowers counts, its hand below f, is a quiet change of a sound pool
module _ (p : Pool) (sound : Sound p) (c : Choice) (on : c.hand < p.settings.frames) (lowers : (i : ℕ) → Lowered (frame_at p.frames i) (frame_at c.frames i)) where
  same : {A : Type 0} (field : Frame → A) (i : ℕ) → field (frame_at c.frames i) ≡ field (with_count (frame_at p.frames i) (frame_at c.frames i).count)
  same field i = ap field (lowers i).kept

  still : (i : ℕ) → i < 128 → (frame_at p.frames i).used ≡ false → frame_at c.frames i ≡ frame_at p.frames i
  still i l e =
      let z : (frame_at p.frames i).count ≡ 0 = ap (λ (fr : Frame). fr.count) ((sound.frame i l).zero e) in
      let y = (lowers i).low in
      let x : (frame_at c.frames i).count ≡ (frame_at p.frames i).count = omega arith in
      (lowers i).kept ∙ ap (with_count (frame_at p.frames i)) x

  alike : (i : ℕ) → i < 128 → Alike p.settings.cap (frame_at p.frames i) (frame_at c.frames i)
  alike i l = record {
    used = same (λ fr. fr.used) i;
    page = same (λ fr. fr.page) i;
    last = same (λ fr. fr.last) i;
    accesses = same (λ fr. fr.accesses) i;
    writes = same (λ fr. fr.writes) i;
    dirty = λ d. sym (same (λ fr. fr.dirty) i) ∙ d;
    count = let x = (lowers i).low in let y = (sound.frame i l).capped in omega arith;
    still = still i l;
  }

  pub quiet_of : Quiet p (left_by p c)
  quiet_of = record { settings = refl; k = refl; access = refl; write = refl; hand = on; frame = alike }

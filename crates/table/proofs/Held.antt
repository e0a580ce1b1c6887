-- The frames that a table holds, and what storing into it makes of them.
use mathlib.Core.Path.{◌≡◌, refl, ap, sym, ◌∙◌}
use mathlib.Core.Bool.{Bool, true, false}
use mathlib.Core.Logic.{◌≢◌}
use mathlib.Core.List.{List, [], ◌∷◌}
use Prim.Native.Nat.{ℕ, zero, suc, ◌+◌, ◌≤◌, ◌<◌}
use native.Mathlib.Omega.{arith}
use native.Mathlib.Nat.{mod-eq_of_lt}
use native.Mathlib.Decide.{ℕ_discrete}
use lib.ListN.{length, get_or, set, length-append, length-set, get_or-append}
use lib.Seq.{get_or_at, ext_get_or, get_or-set_same, get_or-set_other}
use lib.Dec.{eqb}
use mir.Val.{bool_byte}
use Rattle.search.specs.Search.{one_if}
use Rattle.search.proofs.Least.{last_or_below}
use Rattle.pool.specs.declared.Frame.{Frame}
use Rattle.pool.specs.declared.Pool.{Pool}
use Rattle.pool.specs.Pool.{empty_frame, frame_at, with_count, with_dirty}
use Rattle.table.specs.declared.Bench.{Bench}
use Rattle.table.specs.Table.{table_length, guess_start, frame_in, frames_to, frames_in, pool_on}
use Rattle.table.proofs.Cells.{place, stores, other_frame, other_field, own_field}

pub frames_long : (t : List ℕ) (n : ℕ) → length (frames_to t n) ≡ n
unfolding frames_to
frames_long t zero = refl
frames_long t (suc n) = length-append (frames_to t n) (frame_in t n ∷ []) ∙ rw (frames_long t n) (omega arith)

-- frame i of those that it holds
pub held : (t : List ℕ) (n i : ℕ) → i < n → frame_at (frames_to t n) i ≡ frame_in t i
unfolding frames_to
held t zero i l = absurd (omega arith)
held t (suc n) i l =
    last_or_below i n l
    (λ e. rw e (get_or_at (frames_to t n) (frame_in t n) [] empty_frame n (frames_long t n)))
    (λ h. get_or-append (frames_to t n) (frame_in t n ∷ []) empty_frame i (omega (arith, frames_long t n)) ∙ held t n i h)

-- a table that differs from another in frame i alone
module _ (t t' : List ℕ) (i : ℕ) (fr : Frame) (l : i < 128) (own : frame_in t' i ≡ fr) (others : (j : ℕ) → j < 128 → j ≢ i → frame_in t' j ≡ frame_in t j) where
  frame : (j : ℕ) → j < 128 → frame_at (frames_in t') j ≡ frame_at (set (frames_in t) i fr) j
  frame j b = elim (ℕ_discrete j i) [
    | yes q ↦ held t' 128 j b ∙ ap (frame_in t') q ∙ own ∙ sym (ap (frame_at (set (frames_in t) i fr)) q ∙ get_or-set_same (frames_in t) i fr empty_frame (rw (frames_long t 128) l))
    | no q ↦ held t' 128 j b ∙ others j b q ∙ sym (get_or-set_other (frames_in t) i j fr empty_frame q ∙ held t 128 j b)
  ]

  pub changed : frames_in t' ≡ set (frames_in t) i fr
  changed =
      let n = frames_long t 128 in
      let n' = frames_long t' 128 in
      let m = length-set (frames_in t) i fr in
      ext_get_or empty_frame (frames_in t') (set (frames_in t) i fr) (omega arith) (λ j b. frame j (omega arith))

-- storing numbers into frame i's fields changes no other frame
pub others_held : (t vs : List ℕ) (c i j : ℕ) → i < 128 → j < 128 → j ≢ i → frame_in (stores t i vs c) j ≡ frame_in t j
unfolding frame_in
others_held t vs c i j l m q =
    let o = other_frame i l vs t c j in
    rw (o 0 m q, o 1 m q, o 2 m q, o 3 m q, o 4 m q, o 5 m q, o 6 m q, o 7 m q)

-- a test as the number that a cast makes of it
pub bit_of : (b : Bool) → bool_byte b ≡ one_if b
bit_of true = refl
bit_of false = refl

bit_back : (b : Bool) → eqb (one_if b) 1 ≡ b
bit_back true = refl
bit_back false = refl

-- a frame's numbers of one byte
pub record Fits (fr : Frame) : Type 0 where
  pub pins : fr.pins < 256
  pub count : fr.count < 256
  pub accesses : fr.accesses < 256
  pub writes : fr.writes < 256

module _ (t : List ℕ) (i : ℕ) (l : i < 128) (n : length t ≡ table_length) where
  -- all eight numbers
  pub put_held : (fr : Frame) (u d : ℕ) → Fits fr → u ≡ one_if fr.used → d ≡ one_if fr.dirty
      → frames_in (stores t i (u ∷ fr.page ∷ d ∷ fr.pins ∷ fr.count ∷ fr.last ∷ fr.accesses ∷ fr.writes ∷ []) 0) ≡ set (frames_in t) i fr
  unfolding frame_in
  put_held fr u d f a b =
      let vs = u ∷ fr.page ∷ d ∷ fr.pins ∷ fr.count ∷ fr.last ∷ fr.accesses ∷ fr.writes ∷ [] in
      let o : (k : ℕ) → k < 8 → get_or (stores t i vs 0) (place k i) 0 ≡ get_or vs k 0 = λ k m. own_field i l vs t 0 k k n m (omega arith) (omega arith) in
      changed t (stores t i vs 0) i fr l
      (rw (
        o 0 (omega arith),
        o 1 (omega arith),
        o 2 (omega arith),
        o 3 (omega arith),
        o 4 (omega arith),
        o 5 (omega arith),
        o 6 (omega arith),
        o 7 (omega arith),
        a,
        b,
        bit_back fr.used,
        bit_back fr.dirty,
        mod-eq_of_lt f.pins,
        mod-eq_of_lt f.count,
        mod-eq_of_lt f.accesses,
        mod-eq_of_lt f.writes,
      ))
      (λ j m q. others_held t vs 0 i j l m q)

  own_one : (c v : ℕ) → c < 8 → get_or (stores t i (v ∷ []) c) (place c i) 0 ≡ v
  own_one c v m = own_field i l (v ∷ []) t c 0 c n (omega arith) (omega arith) (omega arith)

  rest_one : (c v d : ℕ) → c ≢ d → get_or (stores t i (v ∷ []) c) (place d i) 0 ≡ get_or t (place d i) 0
  rest_one c v d q = other_field i l (v ∷ []) t c d (λ k m e. q (omega arith))

  -- the clock count alone
  pub count_held : (v : ℕ) → v < 256 → frames_in (stores t i (v ∷ []) 4) ≡ set (frames_in t) i (with_count (frame_at (frames_in t) i) v)
  unfolding frame_in
  count_held v f =
      let r = rest_one 4 v in
      changed t (stores t i (v ∷ []) 4) i (with_count (frame_at (frames_in t) i) v) l
      (rw (held t 128 i l, r 0 (λ e. omega arith), r 1 (λ e. omega arith), r 2 (λ e. omega arith), r 3 (λ e. omega arith), own_one 4 v (omega arith), r 5 (λ e. omega arith), r 6 (λ e. omega arith), r 7 (λ e. omega arith), mod-eq_of_lt f))
      (λ j m q. others_held t (v ∷ []) 4 i j l m q)

  -- dirty alone
  pub clean_held : frames_in (stores t i (0 ∷ []) 2) ≡ set (frames_in t) i (with_dirty (frame_at (frames_in t) i) false)
  unfolding frame_in
  clean_held =
      let r = rest_one 2 0 in
      changed t (stores t i (0 ∷ []) 2) i (with_dirty (frame_at (frames_in t) i) false) l
      (rw (held t 128 i l, r 0 (λ e. omega arith), r 1 (λ e. omega arith), own_one 2 0 (omega arith), r 3 (λ e. omega arith), r 4 (λ e. omega arith), r 5 (λ e. omega arith), r 6 (λ e. omega arith), r 7 (λ e. omega arith)))
      (λ j m q. others_held t (0 ∷ []) 2 i j l m q)

-- what stands behind the frames is read by none
pub behind : (t : List ℕ) (at v n : ℕ) → guess_start ≤ at → n ≤ 128 → frames_to (set t at v) n ≡ frames_to t n
unfolding frames_to frame_in
behind t at v zero l m = refl
behind t at v (suc n) l m =
    let o : (d : ℕ) → d < guess_start → get_or (set t at v) d 0 ≡ get_or t d 0 = λ d b. get_or-set_other t at d v 0 (λ e. omega arith) in
    rw (
      behind t at v n l (omega arith),
      o n (omega arith),
      o (n + 128) (omega arith),
      o (n + 256) (omega arith),
      o (n + 384) (omega arith),
      o (n + 512) (omega arith),
      o (n + 640) (omega arith),
      o (n + 768) (omega arith),
      o (n + 896) (omega arith),
    )

-- the first i frames of a list are those of another
pub Filled : List Frame → List Frame → ℕ → Type 0
Filled all l i = (j : ℕ) → j < i → frame_at l j ≡ frame_at all j

module _ (all : List Frame) where
  pub filled_none : (l : List Frame) → Filled all l 0
  unfolding Filled
  filled_none l j h = absurd (omega arith)

  pub filled_more : (l l' : List Frame) (fr : Frame) (i : ℕ) → i < length l → Filled all l i → l' ≡ set l i fr → fr ≡ frame_at all i → Filled all l' (i + 1)
  unfolding Filled
  filled_more l l' fr i b f e h j m =
      last_or_below j i (omega arith)
      (λ q. ap (λ (x : List Frame). frame_at x j) e ∙ ap (frame_at (set l i fr)) q ∙ get_or-set_same l i fr empty_frame b ∙ h ∙ ap (frame_at all) (sym q))
      (λ q. ap (λ (x : List Frame). frame_at x j) e ∙ get_or-set_other l i j fr empty_frame (λ x. omega arith) ∙ f j q)

  pub filled_all : (l : List Frame) (i : ℕ) → length l ≡ 128 → length all ≡ 128 → i ≡ 128 → Filled all l i → l ≡ all
  unfolding Filled
  filled_all l i n m e f = ext_get_or empty_frame l all (n ∙ sym m) (λ j b. f j (omega arith))

-- the head, the table and the logs of a pool, laid on a bench, are that pool
pub of_parts : (p : Pool) (b : Bench) → b.head.settings ≡ p.settings → b.head.k ≡ p.k → b.head.hand ≡ p.hand → b.head.sampler ≡ p.sampler
    → frames_in b.table ≡ p.frames → b.access ≡ p.access → b.write ≡ p.write → pool_on b ≡ p
of_parts p b settings k hand sampler frames access write = rw (settings, k, hand, sampler, frames, access, write)

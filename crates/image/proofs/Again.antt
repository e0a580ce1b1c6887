-- Writing what was read gives the bytes again.
use mathlib.Core.Path.{◌≡◌, refl, ap, ◌∙◌}
use mathlib.Core.Bool.{true}
use mathlib.Core.List.{List, ◌++◌, append_assoc, append-nil}
use mathlib.Core.Logic.{⊎_elim, ◌⊎◌, inl, inr}
use Prim.Native.Nat.{ℕ, zero, suc, ◌+◌, ◌-◌, ◌*◌, ◌≤◌, ◌<◌}
use native.Mathlib.Nat.{eq-zero-or-pos}
use native.Mathlib.Omega.{arith}
use lib.ListN.{length, take, drop, replicate, length-replicate, get_or-replicate, get_or-eq_default}
use lib.Seq.{sets, length-sets, take_all, get_or-append-add, get_or-drop}
use borrow.Author.Tests.{eqb-true}
use Rattle.word.specs.declared.Order.{Order}
use Rattle.word.proofs.Laws.{Bytes, number_at_lt}
use Rattle.search.proofs.Every.{every_at}
use Rattle.search.proofs.Count.{count_lowest}
use Rattle.refusal.proofs.Laws.{neither}
use Rattle.settings.specs.Settings.{settings_bytes, settings_at}
use Rattle.settings.proofs.Places.{join_is, join, settings_join}
use Rattle.trace.proofs.Again.{mark_again}
use Rattle.pool.specs.declared.Frame.{Frame}
use Rattle.pool.specs.declared.Pool.{Pool}
use Rattle.pool.specs.Pool.{frame_room, empty_frame, frame_at, fresh_pool, opened}
use Rattle.pool.specs.Sound.{sound_pool, pool_refusal}
use Rattle.pool.proofs.ByFrame.{passed_sound}
use Rattle.entry.specs.Run.{run_of}
use Rattle.entry.specs.Entry.{entry_length, zero_in, frame_in, access_in, write_in, access_of, write_of, entry_bytes}
use Rattle.entry.proofs.Run.{run_none, run_more, run_length, run_at, one_at, front_run}
use Rattle.entry.proofs.Laws.{fitting}
use Rattle.entry.proofs.Round.{entry_again}
use Rattle.image.specs.Layout.{image_edition, image_header, image_length, used_at, settings_in, pool_to, pool_at, used_in, header_bytes, encode_pool}
use Rattle.image.specs.Image.{entry_zero, entry_held, held_refusal, order_of, pool_of, image_refusal, image_of, Typed}
use Rattle.image.proofs.Laws.{Held, holds_marked, opened_number, frame_run, access_run, write_run, length_access, length_write}

module _ (o : Order) (s : List ℕ) (held : Held o s) where
  abbrev u : ℕ
  u = used_at o s

  abbrev p : Pool
  p = pool_at o s

  -- ---- what the pool holds

  abbrev frames_run : List Frame
  frames_run = run_of (frame_run o s) u

  frames_are : p.frames ≡ frames_run ++ drop u (replicate frame_room empty_frame)
  unfolding pool_to fresh_pool
  frames_are =
      let few = held.fill.few in
      let n : length frames_run ≡ u = run_length (frame_run o s) 1 u (λ j h. refl) u (omega arith) ∙ (let e : u * 1 ≡ u = omega arith in e) in
      let long = length-replicate frame_room empty_frame in
      front_run (replicate frame_room empty_frame) frames_run u n (omega arith)

  frame_of : (i : ℕ) → i < u → frame_at p.frames i ≡ frame_in o s (image_length i)
  frame_of i l =
      ap (λ (x : List Frame). frame_at x i) frames_are
      ∙ one_at (frames_run ++ drop u (replicate frame_room empty_frame)) i (frame_in o s (image_length i)) empty_frame
      (run_at (frame_run o s) 1 u (λ j h. refl) u (omega arith) i l (drop u (replicate frame_room empty_frame)))

  frame_past : (i : ℕ) → u ≤ i → i < 128 → frame_at p.frames i ≡ empty_frame
  frame_past i l m =
      let few = held.fill.few in
      let n : length frames_run ≡ u = run_length (frame_run o s) 1 u (λ j h. refl) u (omega arith) ∙ (let e : u * 1 ≡ u = omega arith in e) in
      let past = drop u (replicate frame_room empty_frame) in
      let e : i ≡ length frames_run + (i - u) = omega arith in
      let b : u + (i - u) < frame_room = omega arith in
      ap (λ (x : List Frame). frame_at x i) frames_are
      ∙ ap (frame_at (frames_run ++ past)) e
      ∙ get_or-append-add frames_run past (i - u) empty_frame
      ∙ get_or-drop u (replicate frame_room empty_frame) (i - u) empty_frame
      ∙ get_or-replicate frame_room (u + (i - u)) empty_frame empty_frame b

  -- the i-th of the logs that stand at the front of n places
  log_of : (run : ℕ → List ℕ) (w n : ℕ) → ((j : ℕ) → j < u → length (run j) ≡ w) → u * w ≤ n → (i : ℕ) → i < u → take w (drop (i * w) (sets (replicate n 0) 0 (run_of run u))) ≡ run i
  log_of run w n long fits i l =
      let m = run_length run w u long u (omega arith) in
      let room = length-replicate {A = ℕ} n 0 in
      ap (λ (x : List ℕ). take w (drop (i * w) x)) (front_run (replicate n 0) (run_of run u) (u * w) m (omega arith)) ∙ run_at run w u long u (omega arith) i l (drop (u * w) (replicate n 0))

  access_of_lem : (i : ℕ) → i < u → access_of p i ≡ access_in o s (image_length i)
  unfolding pool_to fresh_pool
  access_of_lem i l = let few = held.fill.few in log_of (access_run o s) 8 1024 (λ j h. length_access o s (image_length j)) (omega arith) i l

  write_of_lem : (i : ℕ) → i < u → write_of p i ≡ write_in o s (image_length i)
  unfolding pool_to fresh_pool
  write_of_lem i l = let few = held.fill.few in log_of (write_run o s) 4 512 (λ j h. length_write o s (image_length j)) (omega arith) i l

  used_again : used_in p ≡ u
  unfolding used_in frame_in
  used_again =
      count_lowest (λ i. (frame_at p.frames i).used) 128 u held.fill.few (λ i l. ap (λ (f : Frame). f.used) (frame_of i l)) (λ i l m. ap (λ (f : Frame). f.used) (frame_past i l m))

  -- ---- its bytes

  module _ (bs : Bytes s) where
    entries_again : (n : ℕ) → n ≤ u → take image_header s ++ run_of (entry_bytes o p) n ≡ take (image_length n) s
    entries_again zero h = ap (λ (x : List ℕ). take image_header s ++ x) (run_none (entry_bytes o p)) ∙ append-nil (take image_header s)
    entries_again (suc n) h =
        let l : n < u = omega arith in
        let long = held.laid.long in
        let at = image_length n in
        let f = fitting o s at (every_at (entry_held o s) u n held.fill.fits l) in
        let z = eqb-true (zero_in o s at) 0 (every_at (entry_zero o s) u n held.fill.zeros l) in
        let e : suc n ≡ n + 1 = omega arith in
        let m : at + 68 ≡ image_length (suc n) = omega arith in
        rw (e, run_more (entry_bytes o p) n, ← append_assoc (take image_header s) (run_of (entry_bytes o p) n) (entry_bytes o p n), entries_again n (omega arith))
        (entry_again o s bs p n at (omega arith) (frame_of n l) (access_of_lem n l) (write_of_lem n l) f.dirty z ∙ ap (λ (k : ℕ). take k s) (m ∙ ap image_length e))

    header_again : header_bytes o p u ≡ take image_header s
    unfolding header_bytes pool_to
    header_again =
        let laid = held.laid in
        let fill = held.fill in
        let long = laid.long in
        let b : 64 ≤ length s = omega arith in
        let mark = mark_again o s (omega arith) held.mark in
        let set : take 24 s ++ settings_bytes o (settings_in o s) ≡ take 44 s = settings_join o s bs 24 (omega arith) in
        simp (← append_assoc)
        (rw (
          ← mark,
          join_is o s bs 4 2 image_edition (omega arith) laid.edition_is,
          join_is o s bs 6 2 0 (omega arith) fill.zero₁,
          join o s bs 8 4 (omega arith),
          join_is o s bs 12 4 image_header (omega arith) laid.offset,
          join_is o s bs 16 4 entry_length (omega arith) laid.entry,
          join_is o s bs 20 4 (image_length u) (omega arith) laid.field,
          set,
          join_is o s bs 44 4 0 (omega arith) fill.zero₂,
          join o s bs 48 4 (omega arith),
          join o s bs 52 2 (omega arith),
          join_is o s bs 54 2 0 (omega arith) fill.zero₃,
          join o s bs 56 4 (omega arith),
          join_is o s bs 60 4 0 (omega arith) fill.zero₄,
        ))

    pub pool_again : encode_pool o p ≡ s
    unfolding encode_pool
    pool_again =
        let long = held.laid.long in
        rw (used_again, header_again) (entries_again u (omega arith) ∙ take_all (image_length u) s (omega arith))

    -- what the types say of the bytes they say of the pool
    page_fits : (i : ℕ) → i < 128 → ((frame_at p.frames i).page < 4294967296) × ((frame_at p.frames i).pins < 256)
    unfolding frame_in
    page_fits i b =
        let long = held.laid.long in
        let near : (i < u) ⊎ (u ≤ i) = ⊎_elim (λ q. inr (omega arith)) (λ q. inl (omega arith)) (eq-zero-or-pos (u - i)) in
        ⊎_elim
        (λ (l : i < u). let f = fitting o s (image_length i) (every_at (entry_held o s) u i held.fill.fits l) in
        let n : image_length i + 4 ≤ length s = omega arith in
        rw (frame_of i l) (number_at_lt o 4 (image_length i) s bs n, f.pins))
        (λ (l : u ≤ i). rw (frame_past i l b) (omega arith, omega arith))
        near

    pub pool_typed : Typed p
    unfolding pool_to fresh_pool settings_at
    pool_typed =
        let long = held.laid.long in
        let framed : length p.frames ≡ frame_room = length-sets (replicate frame_room empty_frame) 0 frames_run ∙ length-replicate frame_room empty_frame in
        let near : (i : ℕ) → (i < 128) ⊎ (128 ≤ i) = λ i. ⊎_elim (λ q. inr (omega arith)) (λ q. inl (omega arith)) (eq-zero-or-pos (128 - i)) in
        let none : (i : ℕ) → 128 ≤ i → frame_at p.frames i ≡ empty_frame = λ i b. get_or-eq_default p.frames empty_frame {n = i} (omega arith) in
        record {
          frames = framed;
          access = length-sets (replicate 1024 0) 0 (run_of (access_run o s) u) ∙ length-replicate {A = ℕ} 1024 0;
          write = length-sets (replicate 512 0) 0 (run_of (write_run o s) u) ∙ length-replicate {A = ℕ} 512 0;
          page = λ i. ⊎_elim (λ (b : i < 128). (page_fits i b).0) (λ (b : 128 ≤ i). rw (none i b) (omega arith)) (near i);
          pins = λ i. ⊎_elim (λ (b : i < 128). (page_fits i b).1) (λ (b : 128 ≤ i). rw (none i b) (omega arith)) (near i);
          sampler = number_at_lt o 4 56 s bs (omega arith);
          seed = number_at_lt o 4 40 s bs (omega arith);
        }

-- an accepted image holds its pool, which is sound
pub read_told : (s : List ℕ) → image_refusal s ≡ 0 → Held (order_of s) s × (sound_pool (pool_of s) ≡ true)
unfolding image_refusal
read_told s z = let b = neither (held_refusal s) (pool_refusal (pool_of s)) z in (holds_marked s b.0, passed_sound (pool_of s) b.1)

pub read_number : (s : List ℕ) → (image_of s).refusal ≡ image_refusal s
unfolding image_of
read_number s = opened_number (image_refusal s) (pool_of s)

pub read_pool : (s : List ℕ) → image_refusal s ≡ 0 → image_of s ≡ opened 0 (pool_of s)
unfolding image_of
read_pool s z = rw z

-- the bytes that were read are those of the pool that was read
pub image_again : (s : List ℕ) → Bytes s → image_refusal s ≡ 0 → encode_pool (order_of s) (pool_of s) ≡ s
image_again s bs z = pool_again (order_of s) s (read_told s z).0 bs

pub image_typed : (s : List ℕ) → Bytes s → image_refusal s ≡ 0 → Typed (pool_of s)
image_typed s bs z = pool_typed (order_of s) s (read_told s z).0 bs

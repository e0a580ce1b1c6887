-- Reading what was written gives the pool back.
use mathlib.Core.Path.{◌≡◌, refl, ap, sym, ◌∙◌}
use mathlib.Core.Bool.{Bool, true, false}
use mathlib.Core.List.{List, [], ◌∷◌, ◌++◌, append_assoc, append-nil}
use mathlib.Core.Logic.{⊎_elim, ◌⊎◌, inl, inr}
use Prim.Native.Nat.{ℕ, ◌+◌, ◌-◌, ◌*◌, ◌/◌, ◌%◌, ◌≤◌, ◌<◌}
use native.Mathlib.Nat.{div-le_self, eq-zero-or-pos}
use native.Mathlib.Omega.{arith}
use lib.ListN.{length, get_or, take, drop, replicate, length-append, length-drop, length-replicate, get_or-replicate, take-append-drop, get_or-eq_default}
use lib.Seq.{sets, drop-append-add, length-take-le, get_or-take, get_or-drop}
use lib.Dec.{ltb}
use borrow.Author.Tests.{eq-eqb, le-leb, lt-ltb, le-ltb}
use Rattle.std.specs.Prelude.{Some}
use Rattle.word.specs.Number.{number_of, bytes_of}
use Rattle.word.specs.declared.Order.{Order}
use Rattle.word.specs.declared.Order.TheVariants.{High, Low}
use Rattle.word.proofs.Laws.{number_back}
use Rattle.search.proofs.Every.{every_of}
use Rattle.search.proofs.Count.{count_few, lowest_count}
use Rattle.settings.specs.Settings.{settings_bytes}
use Rattle.settings.proofs.Laws.{ranges}
use Rattle.settings.proofs.Places.{settings_back}
use Rattle.trace.specs.Layout.{mark_of}
use Rattle.pool.specs.declared.Frame.{Frame}
use Rattle.pool.specs.declared.Pool.{Pool}
use Rattle.pool.specs.Pool.{frame_room, empty_frame, frame_at, fresh_pool, opened, last_epoch_of}
use Rattle.pool.specs.Sound.{sound_pool, pool_refusal}
use Rattle.pool.proofs.Sound.{Logged, Sound, told}
use Rattle.pool.proofs.Sizes.{Sized}
use Rattle.entry.specs.Run.{run_of}
use Rattle.entry.specs.Entry.{entry_length, entry_bytes}
use Rattle.entry.proofs.Run.{run_length, run_at, run_same, run_parts, run_ones, rest_same, front_stored}
use Rattle.entry.proofs.Round.{Words, Narrow, ReadsAs, entry_back}
use Rattle.image.specs.Layout.{image_edition, image_header, image_length, edition_at, zero_at6, used_at, offset_at, entry_length_at, length_at, settings_in, zero_at44, k_at, hand_at, zero_at54, sampler_at, zero_at60, pool_to, pool_at, used_in, front_bytes, back_bytes, header_bytes, encode_pool}
use Rattle.image.specs.Image.{entry_zero, entry_held, layout_refusal, content_refusal, held_refusal_in, held_refusal, pool_of, image_refusal, image_of, Typed}
use Rattle.image.proofs.Laws.{order_is, frame_run, access_run, write_run, length_front, length_header, length_entry}

-- ---- the header

-- what stands at the places of a header beside the settings, as bytes
record FieldsOf (o : Order) (s : List ℕ) (p : Pool) (u : ℕ) : Type 0 where
  is_edition : edition_at o s ≡ number_of o (bytes_of o 2 image_edition)
  is_zero₁ : zero_at6 o s ≡ number_of o (bytes_of o 2 0)
  is_used : used_at o s ≡ number_of o (bytes_of o 4 u)
  is_offset : offset_at o s ≡ number_of o (bytes_of o 4 image_header)
  is_entry : entry_length_at o s ≡ number_of o (bytes_of o 4 entry_length)
  is_long : length_at o s ≡ number_of o (bytes_of o 4 (image_length u))
  is_zero₂ : zero_at44 o s ≡ number_of o (bytes_of o 4 0)
  is_k : k_at o s ≡ number_of o (bytes_of o 4 p.k)
  is_hand : hand_at o s ≡ number_of o (bytes_of o 2 p.hand)
  is_zero₃ : zero_at54 o s ≡ number_of o (bytes_of o 2 0)
  is_sampler : sampler_at o s ≡ number_of o (bytes_of o 4 p.sampler)
  is_zero₄ : zero_at60 o s ≡ number_of o (bytes_of o 4 0)

header_read : (o : Order) (p : Pool) (u : ℕ) (rest : List ℕ) → FieldsOf o (header_bytes o p u ++ rest) p u
unfolding header_bytes settings_bytes
header_read High p u rest = record { is_edition = refl; is_zero₁ = refl; is_used = refl; is_offset = refl; is_entry = refl; is_long = refl; is_zero₂ = refl; is_k = refl; is_hand = refl; is_zero₃ = refl; is_sampler = refl; is_zero₄ = refl }
header_read Low p u rest = record { is_edition = refl; is_zero₁ = refl; is_used = refl; is_offset = refl; is_entry = refl; is_long = refl; is_zero₂ = refl; is_k = refl; is_hand = refl; is_zero₃ = refl; is_sampler = refl; is_zero₄ = refl }

mark_read : (o : Order) (p : Pool) (u : ℕ) (rest : List ℕ) → mark_of (header_bytes o p u ++ rest) ≡ Some o
unfolding header_bytes
mark_read High p u rest = refl
mark_read Low p u rest = refl

-- ---- logs

-- the numbers of a sound log fit 4 bytes
log_words : (a : List ℕ) (at room n e : ℕ) → Logged a at room n e → e < 4294967296 → at + room ≤ length a → Words (take room (drop at a))
log_words a at room n e g h l j =
    let m = length-take-le room (drop at a) (simp length-drop (omega arith)) in
    let near : (j < room) ⊎ (room ≤ j) = ⊎_elim (λ q. inr (omega arith)) (λ q. inl (omega arith)) (eq-zero-or-pos (room - j)) in
    let here : (j < n) ⊎ (n ≤ j) = ⊎_elim (λ q. inr (omega arith)) (λ q. inl (omega arith)) (eq-zero-or-pos (n - j)) in
    ⊎_elim
    (λ (b : j < room). rw (get_or-take room (drop at a) j 0 b, get_or-drop at a j 0)
    (⊎_elim (λ (i : j < n). let x = g.high j i in omega arith) (λ (i : n ≤ j). let x = g.rest j i b in omega arith) here))
    (λ (b : room ≤ j). let x = get_or-eq_default (take room (drop at a)) 0 {n = j} (omega arith) in omega arith)
    near

-- ---- a sound pool

module _ (o : Order) (p : Pool) (ty : Typed p) (ok : sound_pool p ≡ true) where
  abbrev u : ℕ
  u = used_in p

  abbrev image : List ℕ
  image = encode_pool o p

  sound : Sound p
  sound = told p ok

  pub sizes : Sized p
  sizes = record { frames = ty.frames; access = ty.access; write = ty.write }

  pub used_few : u ≤ 128
  unfolding used_in
  used_few = count_few (λ i. (frame_at p.frames i).used) 128

  pub used_is : (i : ℕ) → i < 128 → (frame_at p.frames i).used ≡ ltb i u
  unfolding used_in
  used_is i l = lowest_count (λ j. (frame_at p.frames j).used) 128 (λ j m. (sound.frame j m).lowest) i l

  pub in_use_lem : (i : ℕ) → i < u → (frame_at p.frames i).used ≡ true
  in_use_lem i l = let f = used_few in used_is i (omega arith) ∙ lt-ltb i u l

  unused : (i : ℕ) → u ≤ i → i < 128 → frame_at p.frames i ≡ empty_frame
  unused i l m = (sound.frame i m).zero (used_is i m ∙ le-ltb i u l)

  abbrev fr : ℕ → Frame
  fr i = frame_at p.frames i

  last_fits : (i : ℕ) → i < 128 → (fr i).last < 4294967296
  last_fits i l = go (fr i).used refl
    where
      go : (t : Bool) → (frame_at p.frames i).used ≡ t → (frame_at p.frames i).last < 4294967296
      go true e = let b = ((told p ok).frame i l).below e in let k = (told p ok).few in omega arith
      go false e = let z = ap (λ (f : Frame). f.last) (((told p ok).frame i l).zero e) in omega arith

  narrow : (i : ℕ) → i < 128 → Narrow (fr i)
  narrow i l =
      let cap = (ranges p.settings sound.settings).cap.1 in
      let c = (sound.frame i l).capped in
      let a = (sound.frame i l).access.short in
      let w = (sound.frame i l).write.short in
      record { page = ty.page i; last = last_fits i l; pins = ty.pins i; count = omega arith; accesses = omega arith; writes = omega arith }

  epoch_fits : (i : ℕ) → i < 128 → last_epoch_of p i < 4294967296
  unfolding last_epoch_of
  epoch_fits i l = let a = div-le_self (fr i).last p.settings.span in let b = last_fits i l in omega arith

  -- entry i stands at its place
  pub there : (i : ℕ) → i < u → (zs : List ℕ) × (drop (image_length i) image ≡ entry_bytes o p i ++ zs)
  unfolding encode_pool
  there i l =
      let h = header_bytes o p u in
      let r = run_of (entry_bytes o p) u in
      let place : image_length i ≡ length h + i * 68 = let n = length_header o p u in omega arith in
      let at = drop (i * 68) r in
      let one : take 68 at ≡ entry_bytes o p i = ap (λ (x : List ℕ). take 68 (drop (i * 68) x)) (sym (append-nil r)) ∙ run_at (entry_bytes o p) 68 128 (length_entry o p sizes) u used_few i l [] in
      (drop 68 at, ap (λ (n : ℕ). drop n (h ++ r)) place ∙ drop-append-add h r (i * 68) ∙ sym (take-append-drop 68 at) ∙ ap (λ (x : List ℕ). x ++ drop 68 at) one)

  pub entry : (i : ℕ) → i < u → ReadsAs o image (image_length i) p i
  entry i l =
      let few = used_few in
      let b : i < 128 = omega arith in
      let za = ty.access in
      let zw = ty.write in
      let t = there i l in
      let f = sound.frame i b in
      let la : i * 8 + 8 ≤ length p.access = omega arith in
      let lw : i * 4 + 4 ≤ length p.write = omega arith in
      entry_back o image (image_length i) p i t.0 t.1 (narrow i b) la lw
      (log_words p.access (i * 8) 8 (fr i).accesses (last_epoch_of p i) f.access (epoch_fits i b) la)
      (log_words p.write (i * 4) 4 (fr i).writes (last_epoch_of p i) f.write (epoch_fits i b) lw)

  -- ---- the arrays

  frames_back : (l : List Frame) → l ≡ replicate frame_room empty_frame → sets l 0 (run_of (frame_run o image) u) ≡ p.frames
  frames_back l e =
      let few = used_few in
      let long = ty.frames in
      let ll : length l ≡ length p.frames = ap length e ∙ length-replicate frame_room empty_frame ∙ sym long in
      let run : run_of (frame_run o image) u ≡ take u p.frames =
      run_same (frame_run o image) (λ i. frame_at p.frames i ∷ []) u (λ i h. ap (λ (f : Frame). f ∷ []) ((entry i h).frame (in_use_lem i h))) ∙ run_ones p.frames empty_frame u (omega arith) in
      ap (λ (x : List Frame). sets l 0 x) run
      ∙ front_stored l p.frames u ll (omega arith)
      (rest_same empty_frame l p.frames u ll (λ i a b. ap (λ (x : List Frame). frame_at x i) e ∙ get_or-replicate frame_room i empty_frame empty_frame (omega arith) ∙ sym (unused i a (omega arith))))

  -- past the logs of the frames in use all is zero
  access_zero : (m : ℕ) → u * 8 ≤ m → m < 1024 → get_or p.access m 0 ≡ 0
  access_zero m a b =
      let i = m / 8 in
      let l : i < 128 = omega arith in
      let z = ap (λ (f : Frame). f.accesses) (unused i (omega arith) l) in
      let e : i * 8 + m % 8 ≡ m = omega arith in
      ap (λ (k : ℕ). get_or p.access k 0) (sym e) ∙ (sound.frame i l).access.rest (m % 8) (omega arith) (omega arith)

  write_zero : (m : ℕ) → u * 4 ≤ m → m < 512 → get_or p.write m 0 ≡ 0
  write_zero m a b =
      let i = m / 4 in
      let l : i < 128 = omega arith in
      let z = ap (λ (f : Frame). f.writes) (unused i (omega arith) l) in
      let e : i * 4 + m % 4 ≡ m = omega arith in
      ap (λ (k : ℕ). get_or p.write k 0) (sym e) ∙ (sound.frame i l).write.rest (m % 4) (omega arith) (omega arith)

  -- logs that read as they were, all other places zero
  logs_back : (a l : List ℕ) (w n : ℕ) (f : ℕ → List ℕ) → length a ≡ n → l ≡ replicate n 0 → u * w ≤ n → ((i : ℕ) → i < u → f i ≡ take w (drop (i * w) a))
      → ((m : ℕ) → u * w ≤ m → m < n → get_or a m 0 ≡ 0) → sets l 0 (run_of f u) ≡ a
  logs_back a l w n f long e fits logs zeros =
      let ll : length l ≡ length a = ap length e ∙ length-replicate {A = ℕ} n 0 ∙ sym long in
      let run : run_of f u ≡ take (u * w) a = run_same f (λ i. take w (drop (i * w) a)) u logs ∙ run_parts a w u in
      ap (λ (x : List ℕ). sets l 0 x) run
      ∙ front_stored l a (u * w) ll (omega arith)
      (rest_same 0 l a (u * w) ll (λ i h b. ap (λ (x : List ℕ). get_or x i 0) e ∙ get_or-replicate n i 0 0 (omega arith) ∙ sym (zeros i h (omega arith))))

  access_back : sets (replicate 1024 0) 0 (run_of (access_run o image) u) ≡ p.access
  access_back = let few = used_few in logs_back p.access (replicate 1024 0) 8 1024 (access_run o image) ty.access refl (omega arith) (λ i h. (entry i h).access) access_zero

  write_back : sets (replicate 512 0) 0 (run_of (write_run o image) u) ≡ p.write
  write_back = let few = used_few in logs_back p.write (replicate 512 0) 4 512 (write_run o image) ty.write refl (omega arith) (λ i h. (entry i h).write) write_zero

  -- ---- the whole

  head : FieldsOf o image p u
  unfolding encode_pool
  head = header_read o p u (run_of (entry_bytes o p) u)

  pub mark : mark_of image ≡ Some o
  unfolding encode_pool
  mark = mark_read o p u (run_of (entry_bytes o p) u)

  pub length_image : length image ≡ image_length u
  unfolding encode_pool
  length_image =
      length-append (header_bytes o p u) (run_of (entry_bytes o p) u)
      ∙ rw (length_header o p u, run_length (entry_bytes o p) 68 128 (length_entry o p sizes) u used_few) (omega arith)

  pub used_back : used_at o image ≡ u
  used_back = let few = used_few in head.is_used ∙ number_back o 4 u (omega arith)

  settings_read : settings_in o image ≡ p.settings
  unfolding encode_pool header_bytes
  settings_read =
      let front = front_bytes o u in
      let back = back_bytes o p.k p.hand p.sampler in
      let set = settings_bytes o p.settings in
      let rest = run_of (entry_bytes o p) u in
      settings_back o p.settings 24 front (back ++ rest) image sound.settings ty.seed (append_assoc (front ++ set) back rest) (length_front o u)

  pub pool_back : pool_at o image ≡ p
  unfolding pool_to fresh_pool
  pool_back =
      let few = sound.few in
      let hand = sound.hand in
      let f = (ranges p.settings sound.settings).frames.1 in
      rw (
        used_back,
        settings_read,
        head.is_k ∙ number_back o 4 p.k (omega arith),
        head.is_hand ∙ number_back o 2 p.hand (omega arith),
        head.is_sampler ∙ number_back o 4 p.sampler ty.sampler,
        frames_back (replicate frame_room empty_frame) refl,
        access_back,
        write_back,
      )

  layout_back : layout_refusal o image ≡ 0
  unfolding layout_refusal
  layout_back =
      let few = used_few in
      rw (
        head.is_edition ∙ number_back o 2 image_edition (omega arith),
        used_back,
        head.is_offset ∙ number_back o 4 image_header (omega arith),
        head.is_entry ∙ number_back o 4 entry_length (omega arith),
        head.is_long ∙ number_back o 4 (image_length u) (omega arith),
        length_image,
      )
      (simp (eq-eqb (image_length u) (image_length u) refl))

  content_back : content_refusal o image ≡ 0
  unfolding content_refusal
  content_back =
      rw (
        head.is_zero₁ ∙ number_back o 2 0 (omega arith),
        head.is_zero₂ ∙ number_back o 4 0 (omega arith),
        head.is_zero₃ ∙ number_back o 2 0 (omega arith),
        head.is_zero₄ ∙ number_back o 4 0 (omega arith),
        used_back,
        every_of (entry_zero o image) u (λ i l. eq-eqb _ 0 (entry i l).none),
        every_of (entry_held o image) u (λ i l. (entry i l).fits),
        le-leb u 128 used_few,
      )

  pub held_back : held_refusal image ≡ 0
  unfolding held_refusal held_refusal_in
  held_back = let long = length_image in rw (le-leb image_header (length image) (omega arith), mark, layout_back, content_back)

  pub pool_of_back : pool_of image ≡ p
  pool_of_back = ap (λ (x : Order). pool_at x image) (order_is o image mark) ∙ pool_back

  -- the image of a sound pool reads back as the pool
  pub image_back : image_of image ≡ opened 0 p
  unfolding image_of image_refusal pool_refusal
  image_back = rw (held_back, pool_of_back, ok)

-- Laws that the functions of an image cite.
use mathlib.Core.Path.{◌≡◌, refl, ap, sym, ◌∙◌}
use mathlib.Core.Bool.{true, false, ◌&&◌, and-false, and-eq-true_iff}
use mathlib.Core.List.{List, [], ◌∷◌, ◌++◌}
use Prim.Native.Nat.{ℕ, zero, suc, ◌+◌, ◌*◌, ◌≤◌, ◌<◌}
use native.Mathlib.Omega.{arith}
use lib.ListN.{length, get_or, length-append, get_or-eq_default}
use lib.Seq.{sets, length-sets}
use lib.Dec.{eqb, leb}
use borrow.Author.Tests.{eqb-true, leb-true, le-leb, lt-leb}
use Rattle.std.specs.Prelude.{Option, Some, None}
use Rattle.word.specs.Number.{number_at}
use Rattle.word.specs.declared.Order.{Order}
use Rattle.word.proofs.Laws.{sets_append, length_bytes}
use Rattle.search.specs.Search.{every_below}
use Rattle.search.proofs.Every.{every_at}
use Rattle.refusal.specs.Refusals.{demand, or_else, bad_field, not_sound, other_edition, wrong_length, too_short, no_room}
use Rattle.refusal.specs.declared.Refusal.{Refusal}
use Rattle.refusal.specs.Numbers.{number_of}
use Rattle.refusal.proofs.Laws.{met, or_first, neither, unstored, number_some}
use Rattle.settings.specs.Settings.{one_frame, settings_bytes}
use Rattle.settings.proofs.Places.{length_settings}
use Rattle.trace.specs.Layout.{mark_high, mark_low, begins, mark_of}
use Rattle.trace.proofs.Lists.{length_up_to}
use Rattle.trace.proofs.Sizes.{length_mark}
use Rattle.pool.specs.declared.Frame.{Frame}
use Rattle.pool.specs.declared.Pool.{Pool}
use Rattle.pool.specs.Pool.{frame_room, frame_at, fresh_pool, opened, Opened}
use Rattle.pool.specs.Sound.{pool_refusal}
use Rattle.pool.proofs.Sizes.{Sized}
use Rattle.entry.specs.Run.{run_of}
use Rattle.entry.specs.Entry.{entry_length, frame_in, access_in, write_in, words_at, word_bytes, field_bytes, access_of, write_of, entry_bytes, entry_fits}
use Rattle.entry.proofs.Run.{run_stored}
use Rattle.entry.proofs.Round.{length_fields, length_log}
use Rattle.image.specs.Layout.{image_edition, image_header, image_length, edition_at, zero_at6, used_at, offset_at, entry_length_at, length_at, zero_at44, zero_at54, zero_at60, pool_to, used_in, front_bytes, back_bytes, header_bytes, encode_pool}
use Rattle.image.specs.Image.{lengths_right, layout_refusal, header_zeros, entry_zero, entry_held, content_refusal, held_refusal_in, held_refusal_marked, held_refusal, order_of, pool_of, opened_or, held_of, image_refusal, image_of, saving_refusal, SavedTo}

-- ---- what the demands tell

-- what refusals 3 and 5 demand
pub record LaidOut (o : Order) (s : List ℕ) : Type 0 where
  pub edition_is : edition_at o s ≡ image_edition
  pub offset : offset_at o s ≡ image_header
  pub entry : entry_length_at o s ≡ entry_length
  pub field : length_at o s ≡ image_length (used_at o s)
  pub long : length s ≡ image_length (used_at o s)

pub laid_out : (o : Order) (s : List ℕ) → layout_refusal o s ≡ 0 → LaidOut o s
unfolding layout_refusal
laid_out o s h =
    let u = used_at o s in
    let t1 = eqb (offset_at o s) image_header in
    let t2 = eqb (entry_length_at o s) entry_length in
    let t3 = eqb (length_at o s) (image_length u) in
    let t4 = eqb (length s) (image_length u) in
    let h3 = met (eqb (edition_at o s) image_edition) other_edition (demand (lengths_right o s) wrong_length 0) (omega arith) h in
    let h5 = met (lengths_right o s) wrong_length 0 (omega arith) h3.1 in
    let b1 = (and-eq-true_iff t1 (t2 && (t3 && t4))).0 h5.0 in
    let b2 = (and-eq-true_iff t2 (t3 && t4)).0 b1.1 in
    let b3 = (and-eq-true_iff t3 t4).0 b2.1 in
    record {
      edition_is = eqb-true (edition_at o s) image_edition h3.0;
      offset = eqb-true (offset_at o s) image_header b1.0;
      entry = eqb-true (entry_length_at o s) entry_length b2.0;
      field = eqb-true (length_at o s) (image_length u) b3.0;
      long = eqb-true (length s) (image_length u) b3.1;
    }

-- what refusals 6 and 14 demand, but for soundness
pub record Filled (o : Order) (s : List ℕ) : Type 0 where
  pub zero₁ : zero_at6 o s ≡ 0
  pub zero₂ : zero_at44 o s ≡ 0
  pub zero₃ : zero_at54 o s ≡ 0
  pub zero₄ : zero_at60 o s ≡ 0
  pub zeros : every_below (entry_zero o s) (used_at o s) ≡ true
  pub few : used_at o s ≤ 128
  pub fits : every_below (entry_held o s) (used_at o s) ≡ true

pub filled : (o : Order) (s : List ℕ) → content_refusal o s ≡ 0 → Filled o s
unfolding content_refusal
filled o s h =
    let u = used_at o s in
    let z1 = eqb (zero_at6 o s) 0 in
    let z2 = eqb (zero_at44 o s) 0 in
    let z3 = eqb (zero_at54 o s) 0 in
    let z4 = eqb (zero_at60 o s) 0 in
    let zs = every_below (entry_zero o s) u in
    let fs = every_below (entry_held o s) u in
    let h6 = met (header_zeros o s && zs) bad_field (demand (leb u frame_room && fs) not_sound 0) (omega arith) h in
    let h14 = met (leb u frame_room && fs) not_sound 0 (omega arith) h6.1 in
    let a = (and-eq-true_iff (header_zeros o s) zs).0 h6.0 in
    let b1 = (and-eq-true_iff z1 (z2 && (z3 && z4))).0 a.0 in
    let b2 = (and-eq-true_iff z2 (z3 && z4)).0 b1.1 in
    let b3 = (and-eq-true_iff z3 z4).0 b2.1 in
    let f = (and-eq-true_iff (leb u frame_room) fs).0 h14.0 in
    record {
      zero₁ = eqb-true (zero_at6 o s) 0 b1.0;
      zero₂ = eqb-true (zero_at44 o s) 0 b2.0;
      zero₃ = eqb-true (zero_at54 o s) 0 b3.0;
      zero₄ = eqb-true (zero_at60 o s) 0 b3.1;
      zeros = a.1;
      few = leb-true u frame_room f.0;
      fits = f.1;
    }

-- bytes in the order o that hold a pool
pub record Held (o : Order) (s : List ℕ) : Type 0 where
  pub mark : mark_of s ≡ Some o
  pub laid : LaidOut o s
  pub fill : Filled o s

by_mark : (m : Option Order) (s : List ℕ) → mark_of s ≡ m → held_refusal_marked m s ≡ 0 → (o : Order) × Held o s
unfolding held_refusal_in
by_mark None s e h = absurd (omega arith)
by_mark (Some o) s e h =
    let b = neither (layout_refusal o s) (content_refusal o s) h in
    (o, record { mark = e; laid = laid_out o s b.0; fill = filled o s b.1 })

pub holds : (s : List ℕ) → held_refusal s ≡ 0 → (o : Order) × Held o s
unfolding held_refusal
holds s h = by_mark (mark_of s) s refl (met (leb image_header (length s)) too_short (held_refusal_marked (mark_of s) s) (omega arith) h).1

pub order_is : (o : Order) (s : List ℕ) → mark_of s ≡ Some o → order_of s ≡ o
unfolding order_of
order_is o s e = rw e

-- the same in the order that the mark names
pub holds_marked : (s : List ℕ) → held_refusal s ≡ 0 → Held (order_of s) s
holds_marked s h = let p = holds s h in rw (order_is p.0 s p.1.mark) p.1

-- under four bytes there is no mark
pub no_mark : (s : List ℕ) → length s < 4 → mark_of s ≡ None
no_mark s l =
    let z : get_or s 3 0 ≡ 0 = get_or-eq_default s 0 {n = 3} (omega arith) in
    let h : begins s mark_high ≡ false = rw z (simp and-false) in
    let w : begins s mark_low ≡ false = rw z (simp and-false) in
    rw (h, w)

-- ---- the reader's loop

module _ (o : Order) (s : List ℕ) where
  abbrev pub frame_run : ℕ → List Frame
  frame_run i = frame_in o s (image_length i) ∷ []

  abbrev pub access_run : ℕ → List ℕ
  access_run i = access_in o s (image_length i)

  abbrev pub write_run : ℕ → List ℕ
  write_run i = write_in o s (image_length i)

  pub length_access : (at : ℕ) → length (access_in o s at) ≡ 8
  unfolding access_in
  length_access at = length_up_to (λ j. number_at o 4 (at + 20 + 4 * j) s) 8

  pub length_write : (at : ℕ) → length (write_in o s at) ≡ 4
  unfolding write_in
  length_write at = length_up_to (λ j. number_at o 4 (at + 52 + 4 * j) s) 4

  pub frames_more : (i : ℕ) (l₀ l l' : List Frame) (fr : Frame) → l ≡ sets l₀ 0 (run_of frame_run i) → fr ≡ frame_in o s (image_length i) → l' ≡ sets l i (fr ∷ [])
      → l' ≡ sets l₀ 0 (run_of frame_run (i + 1))
  frames_more i l₀ l l' fr e f e' = run_stored frame_run 1 (i + 1) (λ j h. refl) 0 i i l₀ l l' (omega arith) e (omega arith) (rw f at e')

  pub access_more : (i : ℕ) (l₀ l l' : List ℕ) → l ≡ sets l₀ 0 (run_of access_run i) → l' ≡ sets l (i * 8) (words_at o s (image_length i + 20) 8) → l' ≡ sets l₀ 0 (run_of access_run (i + 1))
  unfolding access_in
  access_more i l₀ l l' e e' = run_stored access_run 8 (i + 1) (λ j h. length_access (image_length j)) 0 i (i * 8) l₀ l l' (omega arith) e (omega arith) e'

  pub write_more : (i : ℕ) (l₀ l l' : List ℕ) → l ≡ sets l₀ 0 (run_of write_run i) → l' ≡ sets l (i * 4) (words_at o s (image_length i + 52) 4) → l' ≡ sets l₀ 0 (run_of write_run (i + 1))
  unfolding write_in
  write_more i l₀ l l' e e' = run_stored write_run 4 (i + 1) (λ j h. length_write (image_length j)) 0 i (i * 4) l₀ l l' (omega arith) e (omega arith) e'

  -- entry i lies within an image of n
  pub entry_within : (i n : ℕ) → i < n → image_length n ≤ length s → image_length i + 68 ≤ length s
  entry_within i n l h = omega arith

  pub entry_fits_lem : (i n : ℕ) → every_below (entry_held o s) n ≡ true → i < n → entry_fits o s (image_length i) ≡ true
  entry_fits_lem i n h l = every_at (entry_held o s) n i h l

-- ---- the writer's stores

pub stored_length : (l l' : List ℕ) (at : ℕ) (bytes : List ℕ) → l' ≡ sets l at bytes → length l' ≡ length l
stored_length l l' at bytes e = rw e (length-sets l at bytes)

pub length_front : (o : Order) (u : ℕ) → length (front_bytes o u) ≡ 24
length_front o u = simp (length-append, length_bytes, length_mark)

pub length_back : (o : Order) (k hand sampler : ℕ) → length (back_bytes o k hand sampler) ≡ 20
length_back o k hand sampler = simp (length-append, length_bytes)

pub length_header : (o : Order) (p : Pool) (u : ℕ) → length (header_bytes o p u) ≡ 64
unfolding header_bytes
length_header o p u =
    length-append (front_bytes o u ++ settings_bytes o p.settings) (back_bytes o p.k p.hand p.sampler)
    ∙ rw (length-append (front_bytes o u) (settings_bytes o p.settings), length_front o u, length_settings o p.settings, length_back o p.k p.hand p.sampler)

pub header_stored : (o : Order) (p : Pool) (u : ℕ) (out a b c : List ℕ) → a ≡ sets out 0 (front_bytes o u) → b ≡ sets a 24 (settings_bytes o p.settings)
    → c ≡ sets b 44 (back_bytes o p.k p.hand p.sampler) → c ≡ sets out 0 (header_bytes o p u)
unfolding header_bytes
header_stored o p u out a b c x y z =
    let front = front_bytes o u in
    let set = settings_bytes o p.settings in
    let back = back_bytes o p.k p.hand p.sampler in
    rw (z, y, x, sets_append (front ++ set) back out 0, sets_append front set out 0, length-append front set, length_front o u, length_settings o p.settings)

module _ (o : Order) (p : Pool) (z : Sized p) where
  pub length_entry : (i : ℕ) → i < 128 → length (entry_bytes o p i) ≡ 68
  unfolding entry_bytes
  length_entry i l =
      let fields = field_bytes o (frame_at p.frames i) in
      let access = word_bytes o (access_of p i) in
      let write = word_bytes o (write_of p i) in
      let za = z.access in
      let zw = z.write in
      length-append (fields ++ access) write
      ∙ rw (length-append fields access, length_fields o (frame_at p.frames i), length_log o p.access (i * 8) 8 (omega arith), length_log o p.write (i * 4) 4 (omega arith))

  -- the three parts of an entry
  pub entry_stored : (i at : ℕ) (out a b c : List ℕ) → i < 128 → a ≡ sets out at (field_bytes o (frame_at p.frames i)) → b ≡ sets a (at + 20) (word_bytes o (access_of p i))
      → c ≡ sets b (at + 52) (word_bytes o (write_of p i)) → c ≡ sets out at (entry_bytes o p i)
  unfolding entry_bytes
  entry_stored i at out a b c l x y w =
      let fields = field_bytes o (frame_at p.frames i) in
      let access = word_bytes o (access_of p i) in
      let write = word_bytes o (write_of p i) in
      let za = z.access in
      let n = length_fields o (frame_at p.frames i) in
      let m = length_log o p.access (i * 8) 8 (omega arith) in
      let nm : length (fields ++ access) ≡ 52 = length-append fields access ∙ rw (n, m) in
      rw (w, y, x)
      (sym (sets_append (fields ++ access) write out at
      ∙ rw (sets_append fields access out at, n, nm)))

  -- one entry more
  pub entries_more : (i : ℕ) (out₀ out a b c : List ℕ) → i < 128 → out ≡ sets out₀ image_header (run_of (entry_bytes o p) i)
      → a ≡ sets out (image_length i) (field_bytes o (frame_at p.frames i)) → b ≡ sets a (image_length i + 20) (word_bytes o (access_of p i))
      → c ≡ sets b (image_length i + 52) (word_bytes o (write_of p i)) → c ≡ sets out₀ image_header (run_of (entry_bytes o p) (i + 1))
  entries_more i out₀ out a b c l e x y w =
      run_stored (entry_bytes o p) 68 128 length_entry image_header i (image_length i) out₀ out c l e (omega arith) (entry_stored i (image_length i) out a b c l x y w)

pub image_stored : (o : Order) (p : Pool) (out a b : List ℕ) → a ≡ sets out 0 (header_bytes o p (used_in p)) → b ≡ sets a image_header (run_of (entry_bytes o p) (used_in p))
    → b ≡ sets out 0 (encode_pool o p)
unfolding encode_pool
image_stored o p out a b x y =
    let h = header_bytes o p (used_in p) in
    let e = run_of (entry_bytes o p) (used_in p) in
    rw (y, x) (sym (sets_append h e out 0 ∙ ap (λ (n : ℕ). sets (sets out 0 h) (0 + n) e) (length_header o p (used_in p))))

-- ---- the ways through the calls

-- no refusal has the number of none
pub number_ne : (r : Refusal) → number_of r ≡ 0 → ⊥
number_ne r h = let some = number_some r in omega arith

pub opened_none : (r : ℕ) (p : Pool) → (r ≡ 0 → ⊥) → opened r (fresh_pool one_frame) ≡ opened_or r p
opened_none zero p h = absurd (h refl)
opened_none (suc r) p h = refl

pub opened_number : (r : ℕ) (p : Pool) → (opened_or r p).refusal ≡ r
opened_number zero p = refl
opened_number (suc r) p = refl

module _ (s : List ℕ) where
  pub held_none : (r : ℕ) (a : Opened) → r ≡ held_refusal s → (r ≡ 0 → ⊥) → a ≡ opened r (fresh_pool one_frame) → a ≡ held_of s
  unfolding held_of
  held_none r a e n h = h ∙ opened_none r (pool_of s) n ∙ ap (λ (k : ℕ). opened_or k (pool_of s)) e

  pub held_whole : (p : Pool) (o : Order) (u : ℕ) → held_refusal s ≡ 0 → o ≡ order_of s → u ≡ used_at o s → p ≡ pool_to o s u → opened 0 p ≡ held_of s
  unfolding held_of
  held_whole p o u z e f h = rw (z, h, f, e)

  pub read_none : (a : Opened) → a ≡ held_of s → (a.refusal ≡ 0 → ⊥) → a ≡ image_of s
  unfolding held_of image_of image_refusal
  read_none a e n =
      let is : a.refusal ≡ held_refusal s = ap (λ (x : Opened). x.refusal) e ∙ opened_number (held_refusal s) (pool_of s) in
      e ∙ ap (λ (k : ℕ). opened_or k (pool_of s)) (or_first (held_refusal s) (pool_refusal (pool_of s)) (λ z. n (is ∙ z)))

  -- a pool that is held: nothing was refused, and it is the bytes'
  pub held_told : (a : Opened) → a ≡ held_of s → a.refusal ≡ 0 → (held_refusal s ≡ 0) × (a.pool ≡ pool_of s)
  unfolding held_of
  held_told a e z =
      let n : held_refusal s ≡ 0 = sym (ap (λ (x : Opened). x.refusal) e ∙ opened_number (held_refusal s) (pool_of s)) ∙ z in
      (n, ap (λ (x : Opened). x.pool) e ∙ ap (λ (k : ℕ). (opened_or k (pool_of s)).pool) n)

  pub read_unsound : (a : Opened) (r : ℕ) (b : Opened) → a ≡ held_of s → a.refusal ≡ 0 → r ≡ pool_refusal a.pool → (r ≡ 0 → ⊥) → b ≡ opened r (fresh_pool one_frame) → b ≡ image_of s
  unfolding image_of image_refusal
  read_unsound a r b e z q n h =
      let t = held_told a e z in
      let is : r ≡ pool_refusal (pool_of s) = q ∙ ap pool_refusal t.1 in
      h ∙ opened_none r (pool_of s) n ∙ rw (t.0, is)

  pub read_sound : (a : Opened) (r : ℕ) → a ≡ held_of s → a.refusal ≡ 0 → r ≡ pool_refusal a.pool → r ≡ 0 → a ≡ image_of s
  unfolding held_of image_of image_refusal
  read_sound a r e z q n =
      let t = held_told a e z in
      let is : pool_refusal (pool_of s) ≡ 0 = sym (q ∙ ap pool_refusal t.1) ∙ n in
      e ∙ rw (t.0, is)

module _ (p : Pool) (o : Order) (out : List ℕ) where
  pub save_unsound : (r : ℕ) → r ≡ pool_refusal p → (r ≡ 0 → ⊥) → SavedTo p o out r out
  unfolding saving_refusal
  save_unsound r e n =
      let is : r ≡ saving_refusal p (length out) = or_first r (demand (leb (image_length (used_in p)) (length out)) no_room 0) n ∙ ap (λ (k : ℕ). or_else k (demand (leb (image_length (used_in p)) (length out)) no_room 0)) e in
      record { answers = is; bytes_hold = rw (← is) (unstored r (encode_pool o p) out n) }

  pub save_roomless : (r u : ℕ) → r ≡ pool_refusal p → r ≡ 0 → u ≡ used_in p → length out < image_length u → SavedTo p o out no_room out
  unfolding saving_refusal
  save_roomless r u e z f l =
      let sound : pool_refusal p ≡ 0 = sym e ∙ z in
      let small : leb (image_length (used_in p)) (length out) ≡ false = rw (← f) (lt-leb (image_length u) (length out) l) in
      record { answers = rw (sound, small); bytes_hold = rw (sound, small) }

  pub save_whole : (r u : ℕ) (out' : List ℕ) → r ≡ pool_refusal p → r ≡ 0 → u ≡ used_in p → image_length u ≤ length out → out' ≡ sets out 0 (encode_pool o p) → SavedTo p o out 0 out'
  unfolding saving_refusal
  save_whole r u out' e z f l h =
      let sound : pool_refusal p ≡ 0 = sym e ∙ z in
      let room : leb (image_length (used_in p)) (length out) ≡ true = rw (← f) (le-leb (image_length u) (length out) l) in
      record { answers = rw (sound, room); bytes_hold = rw (sound, room) h }

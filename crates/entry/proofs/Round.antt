-- An entry: reading what was written, and writing what was read.
use mathlib.Core.Path.{◌≡◌, refl, ap, sym, ◌∙◌}
use mathlib.Core.Bool.{Bool, true, false}
use mathlib.Core.List.{List, [], ◌∷◌, ◌++◌, append_assoc, append-nil}
use Prim.Native.Nat.{ℕ, zero, suc, ◌+◌, ◌*◌, ◌^◌, ◌≤◌, ◌<◌}
use native.Mathlib.Nat.{add_assoc, add-zero}
use native.Mathlib.Omega.{arith}
use lib.ListN.{length, get_or, take, drop, length-append, length-drop}
use lib.Seq.{drop-drop, take_at, length-take-le}
use lib.Dec.{eqb}
use borrow.Author.Tests.{le-leb}
use Rattle.word.specs.Number.{number_at, number_of, bytes_of}
use Rattle.word.specs.declared.Order.{Order}
use Rattle.word.specs.declared.Order.TheVariants.{High, Low}
use Rattle.word.proofs.Laws.{Bytes, number_back, length_bytes}
use Rattle.word.proofs.Places.{behind}
use Rattle.search.specs.Search.{one_if}
use Rattle.search.proofs.Count.{one_few}
use Rattle.settings.proofs.Places.{join, join_is}
use Rattle.trace.specs.Layout.{up_to}
use Rattle.trace.proofs.Lists.{up_to_is}
use Rattle.pool.specs.declared.Frame.{Frame}
use Rattle.pool.specs.declared.Pool.{Pool}
use Rattle.pool.specs.Pool.{frame_at}
use Rattle.entry.specs.Entry.{words_at, page_in, pins_in, count_in, dirty_in, accesses_in, writes_in, zero_in, access_in, write_in, entry_fits, frame_in, word_bytes, field_bytes, access_of, write_of, entry_bytes}
use Rattle.entry.proofs.Laws.{words_append, length_words}

-- numbers of 4 bytes
abbrev pub Words : List ℕ → Type 0
Words ns = (j : ℕ) → get_or ns j 0 < 4294967296

-- a frame whose numbers fit the entry's fields
pub record Narrow (fr : Frame) : Type 0 where
  pub page : fr.page < 4294967296
  pub last : fr.last < 4294967296
  pub pins : fr.pins < 256
  pub count : fr.count < 256
  pub accesses : fr.accesses < 256
  pub writes : fr.writes < 256

pub bit_back : (b : Bool) → eqb (one_if b) 1 ≡ b
bit_back true = refl
bit_back false = refl

bit_again : (n : ℕ) → n ≤ 1 → one_if (eqb n 1) ≡ n
bit_again zero h = refl
bit_again (suc zero) h = refl
bit_again (suc (suc n)) h = absurd (omega arith)

pub length_fields : (o : Order) (fr : Frame) → length (field_bytes o fr) ≡ 20
unfolding field_bytes
length_fields o fr = simp (length-append, length_bytes)

pub length_log : (o : Order) (a : List ℕ) (at n : ℕ) → at + n ≤ length a → length (word_bytes o (take n (drop at a))) ≡ 4 * n
length_log o a at n h = length_words o (take n (drop at a)) ∙ ap (λ (k : ℕ). 4 * k) (length-take-le n (drop at a) (simp length-drop (omega arith)))

-- ---- reading what was written

module _ (o : Order) where
  words_at_lem : (ns ys : List ℕ) (j : ℕ) → Words ns → j < length ns → number_at o 4 (4 * j) (word_bytes o ns ++ ys) ≡ get_or ns j 0
  words_at_lem [] ys j h l = absurd (omega arith)
  words_at_lem (n ∷ ns) ys zero h l =
      rw (append_assoc (bytes_of o 4 n) (word_bytes o ns) ys, take_at (bytes_of o 4 n) (word_bytes o ns ++ ys) 4 (length_bytes o 4 n)) (number_back o 4 n (h 0))
  words_at_lem (n ∷ ns) ys (suc j) h l =
      let e : 4 * suc j ≡ 4 + 4 * j = omega arith in
      rw (append_assoc (bytes_of o 4 n) (word_bytes o ns) ys, e)
      (behind o 4 (4 * j) 4 (bytes_of o 4 n) (word_bytes o ns ++ ys) (length_bytes o 4 n) ∙ words_at_lem ns ys j (λ k. h (suc k)) (omega arith))

  -- a log that stands in s from a place on
  pub log_back : (s ns xs ys : List ℕ) (at k n : ℕ) → drop at s ≡ xs ++ (word_bytes o ns ++ ys) → length xs ≡ k → length ns ≡ n → Words ns → words_at o s (at + k) n ≡ ns
  log_back s ns xs ys at k n e m long h =
      let f : ℕ → ℕ = λ j. number_at o 4 (at + k + 4 * j) s in
      let one : (j : ℕ) → j < length ns → f j ≡ get_or ns j 0 = λ j l.
      rw (add_assoc at k (4 * j), ← drop-drop (k + 4 * j) at s, e) (behind o 4 (4 * j) k xs (word_bytes o ns ++ ys) m ∙ words_at_lem ns ys j h l) in
      ap (up_to f) (sym long) ∙ up_to_is f ns one

  -- the fields at the front of a list
  record FieldsOf (fr : Frame) (s : List ℕ) : Type 0 where
    page : number_at o 4 0 s ≡ number_of o (bytes_of o 4 fr.page)
    last : number_at o 4 4 s ≡ number_of o (bytes_of o 4 fr.last)
    pins : number_at o 2 8 s ≡ number_of o (bytes_of o 2 fr.pins)
    count : number_at o 2 10 s ≡ number_of o (bytes_of o 2 fr.count)
    dirty : number_at o 2 12 s ≡ number_of o (bytes_of o 2 (one_if fr.dirty))
    accesses : number_at o 2 14 s ≡ number_of o (bytes_of o 2 fr.accesses)
    writes : number_at o 2 16 s ≡ number_of o (bytes_of o 2 fr.writes)
    none : number_at o 2 18 s ≡ number_of o (bytes_of o 2 0)

fields_read : (o : Order) (fr : Frame) (rest : List ℕ) → FieldsOf o fr (field_bytes o fr ++ rest)
unfolding field_bytes
fields_read High fr rest = record { page = refl; last = refl; pins = refl; count = refl; dirty = refl; accesses = refl; writes = refl; none = refl }
fields_read Low fr rest = record { page = refl; last = refl; pins = refl; count = refl; dirty = refl; accesses = refl; writes = refl; none = refl }

-- what the entry of frame i, standing in s at a place, reads as
pub record ReadsAs (o : Order) (s : List ℕ) (at : ℕ) (p : Pool) (i : ℕ) : Type 0 where
  pub frame : (frame_at p.frames i).used ≡ true → frame_in o s at ≡ frame_at p.frames i
  pub access : access_in o s at ≡ access_of p i
  pub write : write_in o s at ≡ write_of p i
  pub none : zero_in o s at ≡ 0
  pub fits : entry_fits o s at ≡ true

module _ (o : Order) (s : List ℕ) (at : ℕ) (p : Pool) (i : ℕ) (zs : List ℕ) (there : drop at s ≡ entry_bytes o p i ++ zs)
    (narrow : Narrow (frame_at p.frames i)) (la : i * 8 + 8 ≤ length p.access) (lw : i * 4 + 4 ≤ length p.write) (wa : Words (access_of p i)) (ww : Words (write_of p i)) where
  abbrev fr : Frame
  fr = frame_at p.frames i

  abbrev fields : List ℕ
  fields = field_bytes o fr

  abbrev access : List ℕ
  access = word_bytes o (access_of p i)

  abbrev write : List ℕ
  write = word_bytes o (write_of p i)

  parts : drop at s ≡ fields ++ (access ++ (write ++ zs))
  unfolding entry_bytes
  parts = there ∙ append_assoc (fields ++ access) write zs ∙ append_assoc fields access (write ++ zs)

  field : (w k v : ℕ) → number_at o w k (fields ++ (access ++ (write ++ zs))) ≡ number_of o (bytes_of o w v) → v < 256 ^ w → number_at o w (at + k) s ≡ v
  field w k v e h = rw (← drop-drop k at s, parts) (e ∙ number_back o w v h)

  abbrev told : FieldsOf o fr (fields ++ (access ++ (write ++ zs)))
  told = fields_read o fr (access ++ (write ++ zs))

  abbrev is_page : page_in o s at ≡ fr.page
  is_page = ap (λ (n : ℕ). number_at o 4 n s) (sym (add-zero at)) ∙ field 4 0 fr.page told.page narrow.page

  is_dirty : dirty_in o s at ≡ one_if fr.dirty
  is_dirty = field 2 12 (one_if fr.dirty) told.dirty (let b = one_few fr.dirty in omega arith)

  is_pins : pins_in o s at ≡ fr.pins
  is_pins = field 2 8 fr.pins told.pins (let n = narrow.pins in omega arith)

  is_count : count_in o s at ≡ fr.count
  is_count = field 2 10 fr.count told.count (let n = narrow.count in omega arith)

  is_accesses : accesses_in o s at ≡ fr.accesses
  is_accesses = field 2 14 fr.accesses told.accesses (let n = narrow.accesses in omega arith)

  is_writes : writes_in o s at ≡ fr.writes
  is_writes = field 2 16 fr.writes told.writes (let n = narrow.writes in omega arith)

  frame_back : fr.used ≡ true → frame_in o s at ≡ fr
  unfolding frame_in
  frame_back u = rw (is_page, is_dirty, bit_back fr.dirty, is_pins, is_count, field 4 4 fr.last told.last narrow.last, is_accesses, is_writes, ← u)

  fits_back : entry_fits o s at ≡ true
  unfolding entry_fits
  fits_back =
      let b = one_few fr.dirty in
      let np = narrow.pins in
      let nc = narrow.count in
      let na = narrow.accesses in
      let nw = narrow.writes in
      rw (
        is_dirty,
        is_pins,
        is_count,
        is_accesses,
        is_writes,
        le-leb (one_if fr.dirty) 1 b,
        le-leb fr.pins 255 (omega arith),
        le-leb fr.count 255 (omega arith),
        le-leb fr.accesses 255 (omega arith),
        le-leb fr.writes 255 (omega arith),
      )

  access_back : access_in o s at ≡ access_of p i
  unfolding access_in
  access_back = log_back o s (access_of p i) fields (write ++ zs) at 20 8 parts (length_fields o fr) (length-take-le 8 (drop (i * 8) p.access) (simp length-drop (omega arith))) wa

  write_back : write_in o s at ≡ write_of p i
  unfolding write_in
  write_back =
      let long : length (fields ++ access) ≡ 52 = length-append fields access ∙ rw (length_fields o fr, length_log o p.access (i * 8) 8 la) in
      log_back o s (write_of p i) (fields ++ access) zs at 52 4 (parts ∙ sym (append_assoc fields access (write ++ zs))) long
      (length-take-le 4 (drop (i * 4) p.write) (simp length-drop (omega arith))) ww

  -- an entry reads back
  pub entry_back : ReadsAs o s at p i
  entry_back = record { frame = frame_back; access = access_back; write = write_back; none = field 2 18 0 told.none (omega arith); fits = fits_back }

-- ---- writing what was read

module _ (o : Order) (s : List ℕ) (bs : Bytes s) where
  words_again : (at n : ℕ) → at + 4 * n ≤ length s → take at s ++ word_bytes o (words_at o s at n) ≡ take (at + 4 * n) s
  words_again at zero h = let e : at ≡ at + 4 * 0 = omega arith in append-nil (take at s) ∙ ap (λ (m : ℕ). take m s) e
  words_again at (suc n) h =
      let v = number_at o 4 (at + 4 * n) s in
      let ws = words_at o s at n in
      let e : at + 4 * n + 4 ≡ at + 4 * suc n = omega arith in
      rw (words_append o ws (v ∷ []), append-nil (bytes_of o 4 v), ← append_assoc (take at s) (word_bytes o ws) (bytes_of o 4 v), words_again at n (omega arith), join o s bs (at + 4 * n) 4 (omega arith), e)

  fields_again : (at : ℕ) (fr : Frame) → at + 20 ≤ length s → fr ≡ frame_in o s at → dirty_in o s at ≤ 1 → zero_in o s at ≡ 0 → take at s ++ field_bytes o fr ≡ take (at + 20) s
  unfolding field_bytes frame_in
  fields_again at fr h e d z =
      rw (e, bit_again (dirty_in o s at) d)
      (simp (← append_assoc)
      (rw (
        join o s bs at 4 (omega arith),
        join o s bs (at + 4) 4 (omega arith),
        add_assoc at 4 4,
        join o s bs (at + 8) 2 (omega arith),
        add_assoc at 8 2,
        join o s bs (at + 10) 2 (omega arith),
        add_assoc at 10 2,
        join o s bs (at + 12) 2 (omega arith),
        add_assoc at 12 2,
        join o s bs (at + 14) 2 (omega arith),
        add_assoc at 14 2,
        join o s bs (at + 16) 2 (omega arith),
        add_assoc at 16 2,
        join_is o s bs (at + 18) 2 0 (omega arith) z,
        add_assoc at 18 2,
      )))

  -- the entry of what was read is what was read
  pub entry_again : (p : Pool) (i at : ℕ) → at + 68 ≤ length s → frame_at p.frames i ≡ frame_in o s at → access_of p i ≡ access_in o s at → write_of p i ≡ write_in o s at
      → dirty_in o s at ≤ 1 → zero_in o s at ≡ 0 → take at s ++ entry_bytes o p i ≡ take (at + 68) s
  unfolding entry_bytes access_in write_in
  entry_again p i at h f a w d z =
      let fields = field_bytes o (frame_at p.frames i) in
      let access = word_bytes o (access_of p i) in
      let write = word_bytes o (write_of p i) in
      sym (append_assoc (take at s) (fields ++ access) write)
      ∙ ap (λ (x : List ℕ). x ++ write)
      (sym (append_assoc (take at s) fields access)
      ∙ ap (λ (x : List ℕ). x ++ access) (fields_again at (frame_at p.frames i) (omega arith) f d z)
      ∙ ap (λ (x : List ℕ). take (at + 20) s ++ word_bytes o x) a
      ∙ words_again (at + 20) 8 (omega arith)
      ∙ ap (λ (m : ℕ). take m s) (add_assoc at 20 32))
      ∙ ap (λ (x : List ℕ). take (at + 52) s ++ word_bytes o x) w
      ∙ words_again (at + 52) 4 (omega arith)
      ∙ ap (λ (m : ℕ). take m s) (add_assoc at 52 16)

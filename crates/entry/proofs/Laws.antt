-- Laws that the functions of an entry cite.
use mathlib.Core.Path.{◌≡◌, refl, ap, sym, ◌∙◌}
use mathlib.Core.Bool.{true, ◌&&◌, and-eq-true_iff}
use mathlib.Core.List.{List, [], ◌∷◌, ◌++◌, append_assoc, append-nil}
use Prim.Native.Nat.{ℕ, ◌+◌, ◌*◌, ◌≤◌, ◌<◌}
use native.Mathlib.Omega.{arith}
use native.Mathlib.Numerals.{add-one}
use lib.ListN.{length, get_or, set, take, length-append}
use lib.Seq.{sets, take-suc}
use lib.Dec.{leb}
use borrow.Author.Tests.{leb-true}
use Rattle.word.specs.Number.{number_at, bytes_of}
use Rattle.word.specs.declared.Order.{Order}
use Rattle.word.proofs.Laws.{sets_append, length_bytes}
use Rattle.trace.specs.Layout.{up_to}
use Rattle.trace.proofs.Lists.{length_up_to}
use Rattle.search.specs.Search.{one_if}
use Rattle.pool.specs.declared.Frame.{Frame}
use Rattle.entry.specs.Entry.{field_bytes, words_at, dirty_in, pins_in, count_in, accesses_in, writes_in, entry_fits, word_bytes}

-- what the test of an entry tells
pub record Fitting (o : Order) (s : List ℕ) (at : ℕ) : Type 0 where
  pub dirty : dirty_in o s at ≤ 1
  pub pins : pins_in o s at < 256
  pub count : count_in o s at < 256
  pub accesses : accesses_in o s at < 256
  pub writes : writes_in o s at < 256

pub fitting : (o : Order) (s : List ℕ) (at : ℕ) → entry_fits o s at ≡ true → Fitting o s at
unfolding entry_fits
fitting o s at h =
    let tp = leb (pins_in o s at) 255 in
    let tc = leb (count_in o s at) 255 in
    let ta = leb (accesses_in o s at) 255 in
    let tw = leb (writes_in o s at) 255 in
    let b0 = (and-eq-true_iff (leb (dirty_in o s at) 1) (tp && (tc && (ta && tw)))).0 h in
    let b1 = (and-eq-true_iff tp (tc && (ta && tw))).0 b0.1 in
    let b2 = (and-eq-true_iff tc (ta && tw)).0 b1.1 in
    let b3 = (and-eq-true_iff ta tw).0 b2.1 in
    let p = leb-true (pins_in o s at) 255 b1.0 in
    let c = leb-true (count_in o s at) 255 b2.0 in
    let a = leb-true (accesses_in o s at) 255 b3.0 in
    let w = leb-true (writes_in o s at) 255 b3.1 in
    record { dirty = leb-true (dirty_in o s at) 1 b0.0; pins = omega arith; count = omega arith; accesses = omega arith; writes = omega arith }

-- ---- logs, a number a turn

-- a log filled from a place on
pub log_more : (o : Order) (s : List ℕ) (at to j v : ℕ) (l₀ l : List ℕ) → l ≡ sets l₀ to (words_at o s at j) → v ≡ number_at o 4 (at + 4 * j) s
    → set l (to + j) v ≡ sets l₀ to (words_at o s at (j + 1))
log_more o s at to j v l₀ l e h =
    let f : ℕ → ℕ = λ i. number_at o 4 (at + 4 * i) s in
    rw (e, h, add-one, sets_append (up_to f j) (f j ∷ []) l₀ to, length_up_to f j)

pub words_append : (o : Order) (xs ys : List ℕ) → word_bytes o (xs ++ ys) ≡ word_bytes o xs ++ word_bytes o ys
words_append o [] ys = refl
words_append o (x ∷ xs) ys = rw (words_append o xs ys) (sym (append_assoc (bytes_of o 4 x) (word_bytes o xs) (word_bytes o ys)))

pub length_words : (o : Order) (xs : List ℕ) → length (word_bytes o xs) ≡ 4 * length xs
length_words o [] = refl
length_words o (x ∷ xs) = length-append (bytes_of o 4 x) (word_bytes o xs) ∙ rw (length_bytes o 4 x, length_words o xs) (omega arith)

-- one number more of a log is stored
pub words_more : (o : Order) (log out₀ out out' : List ℕ) (at j v : ℕ) → j < length log → length (take j log) ≡ j → out ≡ sets out₀ at (word_bytes o (take j log))
    → v ≡ get_or log j 0 → out' ≡ sets out (at + 4 * j) (bytes_of o 4 v) → out' ≡ sets out₀ at (word_bytes o (take (j + 1) log))
words_more o log out₀ out out' at j v l n e h e' =
    rw (e', e, h, add-one, take-suc log j 0 l, words_append o (take j log) (get_or log j 0 ∷ []), append-nil (bytes_of o 4 (get_or log j 0)))
    (sym (sets_append (word_bytes o (take j log)) (bytes_of o 4 (get_or log j 0)) out₀ at ∙ rw (length_words o (take j log), n)))

-- ---- the fields, stored in two parts

abbrev pub numbers_part : Order → Frame → List ℕ
numbers_part o fr = bytes_of o 4 fr.page ++ bytes_of o 4 fr.last ++ bytes_of o 2 fr.pins ++ bytes_of o 2 fr.count

abbrev pub lengths_part : Order → Frame → List ℕ
lengths_part o fr = bytes_of o 2 (one_if fr.dirty) ++ bytes_of o 2 fr.accesses ++ bytes_of o 2 fr.writes ++ bytes_of o 2 0

pub fields_stored : (o : Order) (fr : Frame) (at : ℕ) (l a b : List ℕ) → a ≡ sets l at (numbers_part o fr) → b ≡ sets a (at + 12) (lengths_part o fr) → b ≡ sets l at (field_bytes o fr)
unfolding field_bytes
fields_stored o fr at l a b e h =
    let whole : numbers_part o fr ++ lengths_part o fr ≡ field_bytes o fr = simp append_assoc in
    let n : length (numbers_part o fr) ≡ 12 = simp (length-append, length_bytes) in
    rw (h, e, ← whole) (sym (sets_append (numbers_part o fr) (lengths_part o fr) l at ∙ ap (λ (k : ℕ). sets (sets l at (numbers_part o fr)) (at + k) (lengths_part o fr)) n))

-- Reading the lines of records gives the records.
use mathlib.Core.Path.{◌≡◌, refl, sym, ap, ◌∙◌}
use mathlib.Core.Bool.{Bool, true, false, not, ◌&&◌, and-eq-true_iff}
use Rattle.std.specs.Prelude.{Some}
use mathlib.Core.List.{List, [], ◌∷◌, ◌++◌, map, map-append, append_assoc}
use Prim.Native.Nat.{ℕ, zero, suc, ◌+◌, ◌*◌, ◌-◌, ◌/◌, ◌%◌, ◌^◌, ◌≤◌, ◌<◌, min}
use native.Mathlib.Nat.{pow-suc, mod-lt}
use native.Mathlib.Omega.{arith}
use lib.Dec.{eqb, leb}
use lib.ListN.{length, get_or}
use borrow.Author.Tests.{lt-ltb, le-leb, ne_eqb}
use Rattle.io.specs.Digits.{hex_digit_ascii, last_digits}
use Rattle.numeral.specs.Numeral.{number_limit, is_digit, all_digits, value_after, numeral_of}
use Rattle.numeral.proofs.Laws.{all_snoc, value_snoc}
use Rattle.trace.specs.Layout.{Trace, up_to}
use Rattle.trace.specs.Encode.{Proper}
use Rattle.trace.proofs.Lists.{up_to_is, known_le}
use Rattle.text.specs.declared.Line.{Line}
use Rattle.text.specs.declared.Line.TheVariants.{Record}
use Rattle.text.specs.Text.{line_feed, word_of, record_line, line_of, before, lines_of, lines_in, first_bad, numbers_in, page_of, kind_of, pages_in, kinds_in, places, decimal_of, line_text, text_to, text_of, ReadsAs}
use Rattle.text.proofs.Decimal.{length_digits, places_hold}

-- ---- a number's digits

a_digit : (d : ℕ) → d < 10 → (is_digit (hex_digit_ascii d) ≡ true) × (hex_digit_ascii d - 48 ≡ d)
a_digit d h = rw (lt-ltb d 10 h) ((and-eq-true_iff (leb 48 (48 + d)) (leb (48 + d) 57)).1 (le-leb 48 (48 + d) (omega arith), le-leb (48 + d) 57 (omega arith)), omega arith)

digits_all : (k n : ℕ) → all_digits (last_digits 10 k n) ≡ true
digits_all zero n = refl
digits_all (suc k) n =
    let g = a_digit (n % 10) (mod-lt n (omega arith)) in
    all_snoc (last_digits 10 k (n / 10)) (hex_digit_ascii (n % 10)) ∙ rw (digits_all k (n / 10), g.0)

digits_value : (k n : ℕ) → n < 10 ^ k → value_after 0 (last_digits 10 k n) ≡ n
digits_value zero n h = omega arith
digits_value (suc k) n h =
    let g = a_digit (n % 10) (mod-lt n (omega arith)) in
    let b : n < 10 ^ k * 10 = rw pow-suc at h in
    let i = digits_value k (n / 10) (omega arith) in
    value_snoc (last_digits 10 k (n / 10)) 0 (hex_digit_ascii (n % 10)) ∙ rw (i, g.1) (omega arith)

-- a number is read back from its digits
decimal_read : (n : ℕ) → n < number_limit → numeral_of (decimal_of n) ≡ Some n
unfolding numeral_of decimal_of
decimal_read n h =
    let k = places 9 n in
    let held = places_hold 9 n (omega arith) in
    let long = length_digits 10 k n in
    let some : 0 < length (last_digits 10 k n) = omega (arith, held.1) in
    let least : min n number_limit ≡ n = omega arith in
    rw (digits_all k n, lt-ltb 0 (length (last_digits 10 k n)) some, digits_value k n held.0, least)

-- ---- a record's line

-- a line feed is nowhere in a text
abbrev no_feed : List ℕ → Bool
no_feed [] = true
no_feed (c ∷ s) = not (eqb c line_feed) && no_feed s

feed_append : (a b : List ℕ) → no_feed a ≡ true → no_feed b ≡ true → no_feed (a ++ b) ≡ true
feed_append [] b x y = y
feed_append (c ∷ a) b x y = let h = (and-eq-true_iff (not (eqb c line_feed)) (no_feed a)).0 x in rw h.0 (feed_append a b h.1 y)

digits_feed : (k n : ℕ) → no_feed (last_digits 10 k n) ≡ true
digits_feed zero n = refl
digits_feed (suc k) n =
    let l = mod-lt n {m = 10} (omega arith) in
    let g : hex_digit_ascii (n % 10) ≡ 48 + n % 10 = rw (lt-ltb (n % 10) 10 l) in
    feed_append (last_digits 10 k (n / 10)) (hex_digit_ascii (n % 10) ∷ []) (digits_feed k (n / 10)) (rw (g, ne_eqb (48 + n % 10) line_feed (λ e. omega arith)))

word_feed : (kind : ℕ) → no_feed (word_of kind) ≡ true
word_feed zero = refl
word_feed (suc zero) = refl
word_feed (suc (suc zero)) = refl
word_feed (suc (suc (suc k))) = refl

-- the line of a record without its line feed
abbrev bare : ℕ → ℕ → List ℕ
bare kind page = word_of kind ++ decimal_of page

bare_feed : (kind page : ℕ) → no_feed (bare kind page) ≡ true
unfolding decimal_of
bare_feed kind page = feed_append (word_of kind) (decimal_of page) (word_feed kind) (digits_feed (places 9 page) page)

line_bare : (kind page : ℕ) → line_text kind page ≡ bare kind page ++ (line_feed ∷ [])
unfolding line_text
line_bare kind page = sym (append_assoc (word_of kind) (decimal_of page) (line_feed ∷ []))

record_read : (kind page : ℕ) → page < number_limit → record_line kind (numeral_of (decimal_of page)) ≡ Record kind page
record_read kind page h = rw (decimal_read page h, lt-ltb page number_limit h)

line_back : (kind page : ℕ) → kind ≤ 3 → page < number_limit → line_of (bare kind page) ≡ Record kind page
unfolding line_of
line_back zero page k h = record_read 0 page h
line_back (suc zero) page k h = record_read 1 page h
line_back (suc (suc zero)) page k h = record_read 2 page h
line_back (suc (suc (suc zero))) page k h = record_read 3 page h
line_back (suc (suc (suc (suc n)))) page k h = absurd (omega arith)

-- ---- lines one after the other

before_some : (c : ℕ) (ls : List (List ℕ)) → 0 < length (before c ls)
before_some c [] = omega arith
before_some c (l ∷ ls) = omega arith

before_append : (c : ℕ) (a b : List (List ℕ)) → 0 < length a → before c (a ++ b) ≡ before c a ++ b
before_append c [] b h = absurd (omega arith)
before_append c (l ∷ a) b h = refl

lines_some : (a : List ℕ) → 0 < length (lines_of (a ++ (line_feed ∷ [])))
unfolding lines_of
lines_some [] = omega arith
lines_some (c ∷ a) = go (eqb c line_feed) refl
  where
    go : (b : Bool) → eqb c line_feed ≡ b → 0 < length (lines_of ((c ∷ a) ++ (line_feed ∷ [])))
    go true e = rw e (omega arith)
    go false e = rw e (before_some c (lines_of (a ++ (line_feed ∷ []))))

-- a line feed parts the lines
fed : (a b : List ℕ) → lines_of (a ++ (line_feed ∷ b)) ≡ lines_of (a ++ (line_feed ∷ [])) ++ lines_of b
unfolding lines_of
fed [] b = refl
fed (c ∷ a) b = go (eqb c line_feed) refl (fed a b)
  where
    go : (t : Bool) → eqb c line_feed ≡ t → lines_of (a ++ (line_feed ∷ b)) ≡ lines_of (a ++ (line_feed ∷ [])) ++ lines_of b
        → lines_of ((c ∷ a) ++ (line_feed ∷ b)) ≡ lines_of ((c ∷ a) ++ (line_feed ∷ [])) ++ lines_of b
    go true e i = rw e (ap (λ (ls : List (List ℕ)). [] ∷ ls) i)
    go false e i = rw (e, i) (before_append c (lines_of (a ++ (line_feed ∷ []))) (lines_of b) (lines_some a))

line_alone : (l : List ℕ) → no_feed l ≡ true → lines_of (l ++ (line_feed ∷ [])) ≡ l ∷ []
unfolding lines_of
line_alone [] h = refl
line_alone (c ∷ l) h = go (eqb c line_feed) refl ((and-eq-true_iff (not (eqb c line_feed)) (no_feed l)).0 h) (λ x. line_alone l x)
  where
    go : (t : Bool) → eqb c line_feed ≡ t → (not (eqb c line_feed) ≡ true) × (no_feed l ≡ true) → (no_feed l ≡ true → lines_of (l ++ (line_feed ∷ [])) ≡ l ∷ [])
        → lines_of ((c ∷ l) ++ (line_feed ∷ [])) ≡ (c ∷ l) ∷ []
    go true e f i = absurd (let n = rw e at f.0 in let z : ◌≡◌ {A = ℕ} 0 1 = cc in omega arith)
    go false e f i = rw (e, i f.1)

module _ (pages kinds : List ℕ) where
  abbrev line_at : ℕ → List ℕ
  line_at i = bare (get_or kinds i 0) (get_or pages i 0)

  -- the text of one record more
  text_suc : (i : ℕ) → text_to pages kinds (suc i) ≡ (text_to pages kinds i ++ line_at i) ++ (line_feed ∷ [])
  unfolding text_to
  text_suc i = rw (line_bare (get_or kinds i 0) (get_or pages i 0)) (sym (append_assoc (text_to pages kinds i) (line_at i) (line_feed ∷ [])))

  text_then : (i : ℕ) (s : List ℕ) → lines_of (text_to pages kinds i ++ s) ≡ lines_of (text_to pages kinds i) ++ lines_of s
  unfolding text_to lines_of
  text_then zero s = refl
  text_then (suc i) s =
      let t = text_to pages kinds i ++ line_at i in
      ap (λ (x : List ℕ). lines_of (x ++ s)) (text_suc i) ∙ ap lines_of (append_assoc t (line_feed ∷ []) s) ∙ fed t s ∙ ap (λ (x : List ℕ). lines_of x ++ lines_of s) (sym (text_suc i))

  -- the records as lines
  abbrev records : ℕ → List Line
  records zero = []
  records (suc i) = records i ++ (Record (get_or kinds i 0) (get_or pages i 0) ∷ [])

  module _ (known : (i : ℕ) → get_or kinds i 0 ≤ 3) (fits : (i : ℕ) → get_or pages i 0 < number_limit) where
    text_lines : (i : ℕ) → lines_in (text_to pages kinds i) ≡ records i
    unfolding lines_in text_to lines_of
    text_lines zero = refl
    text_lines (suc i) =
        let t = text_to pages kinds i in
        let kind = get_or kinds i 0 in
        let page = get_or pages i 0 in
        let alone : lines_of (line_text kind page) ≡ line_at i ∷ [] = ap lines_of (line_bare kind page) ∙ line_alone (line_at i) (bare_feed kind page) in
        let parted : lines_of (t ++ line_text kind page) ≡ lines_of t ++ (line_at i ∷ []) = text_then i (line_text kind page) ∙ rw alone in
        ap (λ (ls : List (List ℕ)). map line_of ls) parted ∙ map-append line_of (lines_of t) (line_at i ∷ []) ∙ rw (line_back kind page (known i) (fits i)) (ap (λ (ls : List Line). ls ++ (Record kind page ∷ [])) (text_lines i))

-- ---- what the records' lines give

numbers_append : (f : Line → List ℕ) (a b : List Line) → numbers_in f (a ++ b) ≡ numbers_in f a ++ numbers_in f b
unfolding numbers_in
numbers_append f [] b = refl
numbers_append f (l ∷ a) b = rw (numbers_append f a b) (sym (append_assoc (f l) (numbers_in f a) (numbers_in f b)))

good_append : (n kind page : ℕ) (a : List Line) → first_bad n (a ++ (Record kind page ∷ [])) ≡ first_bad n a
unfolding first_bad
good_append n kind page [] = refl
good_append n kind page (l ∷ a) = rw (good_append (suc n) kind page a)

module _ (pages kinds : List ℕ) where
  records_pages : (i : ℕ) → pages_in (records pages kinds i) ≡ up_to (λ (j : ℕ). get_or pages j 0) i
  unfolding numbers_in
  records_pages zero = refl
  records_pages (suc i) = numbers_append page_of (records pages kinds i) (Record (get_or kinds i 0) (get_or pages i 0) ∷ []) ∙ rw (records_pages i)

  records_kinds : (i : ℕ) → kinds_in (records pages kinds i) ≡ up_to (λ (j : ℕ). get_or kinds j 0) i
  unfolding numbers_in
  records_kinds zero = refl
  records_kinds (suc i) = numbers_append kind_of (records pages kinds i) (Record (get_or kinds i 0) (get_or pages i 0) ∷ []) ∙ rw (records_kinds i)

  records_good : (i : ℕ) → first_bad 0 (records pages kinds i) ≡ 0
  unfolding first_bad
  records_good zero = refl
  records_good (suc i) = good_append 0 (get_or kinds i 0) (get_or pages i 0) (records pages kinds i) ∙ records_good i

-- the text of a trace that the layout can hold has no bad line, and its records are the trace's
pub text_back : (t : Trace) → Proper t → ReadsAs (text_of t) t.pages t.kinds
unfolding text_of
text_back t p =
    let n = length t.pages in
    let e = text_lines t.pages t.kinds (λ i. known_le t.kinds i p.known) p.page n in
    record {
      good = ap (first_bad 0) e ∙ records_good t.pages t.kinds n;
      pages_are = ap pages_in e ∙ records_pages t.pages t.kinds n ∙ up_to_is (λ (j : ℕ). get_or t.pages j 0) t.pages (λ i l. refl);
      kinds_are = ap kinds_in e ∙ records_kinds t.pages t.kinds n ∙ rw p.same (up_to_is (λ (j : ℕ). get_or t.kinds j 0) t.kinds (λ i l. refl));
    }

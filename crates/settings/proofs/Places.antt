-- Settings among bytes: reading what was written, and writing what was read, once over the list of the fields.
use mathlib.Core.Path.{◌≡◌, refl, sym, ap, ◌∙◌}
use mathlib.Core.Bool.{true}
use mathlib.Core.List.{List, [], ◌∷◌, ◌++◌, append_assoc, append-nil}
use Prim.Native.Nat.{ℕ, ◌+◌, ◌^◌, ◌≤◌, ◌<◌}
use native.Mathlib.Nat.{add_assoc, add-zero}
use native.Mathlib.Omega.{arith}
use lib.ListN.{length, get_or, take, drop, length-append, length-drop}
use lib.Seq.{sets, take-add, take_at, drop_at, length-take-le}
use Rattle.word.specs.Number.{bytes_of, number_at}
use Rattle.word.specs.declared.Order.{Order}
use Rattle.word.proofs.Laws.{Bytes, sets_append, number_back, bytes_again, length_bytes, bytes_take, bytes_drop}
use Rattle.settings.specs.Settings.{Field, the_fields, in_range, width_of, settings_length, field_bytes, settings_bytes, settings_numbers, numbers_at, settings_by, settings_at}
use Rattle.settings.specs.declared.Settings.{Settings}
use Rattle.settings.proofs.Laws.{ranges}

length_fields : (o : Order) (fs : List Field) (s : Settings) → length (field_bytes o fs s) ≡ width_of fs
length_fields o [] s = refl
length_fields o (f ∷ fs) s =
    rw (length-append (bytes_of o f.width (f.number s)) (field_bytes o fs s), length_bytes o f.width (f.number s), length_fields o fs s)

pub length_settings : (o : Order) (s : Settings) → length (settings_bytes o s) ≡ settings_length
unfolding settings_bytes
length_settings o s = length_fields o the_fields s

-- ---- stores, one after the other

module _ (o : Order) (s : Settings) where
  field_stores : (f : Field) (fs : List Field) (at : ℕ) (l : List ℕ)
      → sets l at (field_bytes o (f ∷ fs) s) ≡ sets (sets l at (bytes_of o f.width (f.number s))) (at + f.width) (field_bytes o fs s)
  field_stores f fs at l =
      sets_append (bytes_of o f.width (f.number s)) (field_bytes o fs s) l at
      ∙ ap (λ (n : ℕ). sets (sets l at (bytes_of o f.width (f.number s))) (at + n) (field_bytes o fs s)) (length_bytes o f.width (f.number s))

  -- the six of 2 bytes
  pub shorts_stored : (at : ℕ) (l a b c d e f : List ℕ) → a ≡ sets l at (bytes_of o 2 s.rule) → b ≡ sets a (at + 2) (bytes_of o 2 s.frames)
      → c ≡ sets b (at + 4) (bytes_of o 2 s.batch) → d ≡ sets c (at + 6) (bytes_of o 2 s.cap) → e ≡ sets d (at + 8) (bytes_of o 2 s.sample)
      → f ≡ sets e (at + 10) (bytes_of o 2 s.weight) → f ≡ sets l at (field_bytes o (take 6 the_fields) s)
  shorts_stored at l a b c d e f ha hb hc hd he hf = rw (hf, he, hd, hc, hb, ha) (simp (field_stores, add_assoc))

  -- and then the two of 4 bytes
  pub settings_stored : (at : ℕ) (l a b c : List ℕ) → a ≡ sets l at (field_bytes o (take 6 the_fields) s) → b ≡ sets a (at + 12) (bytes_of o 4 s.span)
      → c ≡ sets b (at + 16) (bytes_of o 4 s.seed) → c ≡ sets l at (settings_bytes o s)
  unfolding settings_bytes
  settings_stored at l a b c ha hb hc = rw (hc, hb, ha) (simp (field_stores, add_assoc))

-- ---- writing what was read

module _ (o : Order) (l : List ℕ) (bs : Bytes l) where
  -- the front, and the bytes of the number that stands behind it
  pub join : (n w : ℕ) → n + w ≤ length l → take n l ++ bytes_of o w (number_at o w n l) ≡ take (n + w) l
  join n w h =
      let k : w ≤ length (drop n l) = simp length-drop (omega arith) in
      rw (bytes_again o w (take w (drop n l)) (length-take-le w (drop n l) k) (bytes_take w (drop n l) (bytes_drop n l bs)), ← take-add)

  -- the same where the number is known to be v
  pub join_is : (n w v : ℕ) → n + w ≤ length l → number_at o w n l ≡ v → take n l ++ bytes_of o w v ≡ take (n + w) l
  join_is n w v h e = rw (← e) (join n w h)

  fields_join : (fs : List Field) (s : Settings) (at : ℕ) → at + width_of fs ≤ length l → numbers_at o fs at l ≡ settings_numbers fs s
      → take at l ++ field_bytes o fs s ≡ take (at + width_of fs) l
  fields_join [] s at h e = rw (add-zero at) (append-nil (take at l))
  fields_join (f ∷ fs) s at h e =
      let w = f.width in
      let v = f.number s in
      let is : number_at o w at l ≡ v = ap (λ (ns : List ℕ). get_or ns 0 0) e in
      let rest : numbers_at o fs (at + w) l ≡ settings_numbers fs s = ap (λ (ns : List ℕ). drop 1 ns) e in
      sym (append_assoc (take at l) (bytes_of o w v) (field_bytes o fs s))
      ∙ ap (λ (front : List ℕ). front ++ field_bytes o fs s) (join_is at w v (omega arith) is)
      ∙ fields_join fs s (at + w) (omega arith) rest
      ∙ ap (λ (n : ℕ). take n l) (add_assoc at w (width_of fs))

  -- the bytes that were read are those of what was read
  pub settings_join : (at : ℕ) → at + settings_length ≤ length l → take at l ++ settings_bytes o (settings_at o at l) ≡ take (at + settings_length) l
  unfolding settings_bytes settings_at
  settings_join at h = fields_join the_fields (settings_by (numbers_at o the_fields at l)) at h refl

-- ---- reading what was written

-- each number fits its width
abbrev pub Fitting : List Field → Settings → Type 0
Fitting [] s = Unit {0}
Fitting (f ∷ fs) s = (f.number s < 256 ^ f.width) × Fitting fs s

fields_back : (o : Order) (fs : List Field) (s : Settings) (at : ℕ) (xs ys l : List ℕ) → l ≡ xs ++ field_bytes o fs s ++ ys → length xs ≡ at → Fitting fs s
    → numbers_at o fs at l ≡ settings_numbers fs s
fields_back o [] s at xs ys l e n fit = refl
fields_back o (f ∷ fs) s at xs ys l e n fit =
    let w = f.width in
    let v = f.number s in
    let b = bytes_of o w v in
    let r = field_bytes o fs s in
    let n' : length (xs ++ b) ≡ at + w = rw (length-append xs b, length_bytes o w v, n) in
    let e' : l ≡ xs ++ b ++ r ++ ys = rw (e, ← append_assoc xs b r) in
    let there : l ≡ xs ++ (b ++ (r ++ ys)) = rw (e, append_assoc xs (b ++ r) ys, append_assoc b r ys) in
    let is : number_at o w at l ≡ v = rw (there, drop_at xs (b ++ (r ++ ys)) at n, take_at b (r ++ ys) w (length_bytes o w v)) (number_back o w v fit.0) in
    rw (is, fields_back o fs s (at + w) (xs ++ b) ys l e' n' fit.1)

-- settings in range, with a seed of 4 bytes, fit their widths
fitting : (s : Settings) → in_range s ≡ true → s.seed < 4294967296 → Fitting the_fields s
fitting s range seed =
    let r = ranges s range in
    (omega arith, (omega arith, (omega arith, (omega arith, (omega arith, (omega arith, (omega arith, (seed, tt))))))))

-- what was written reads back
pub settings_back : (o : Order) (s : Settings) (at : ℕ) (xs ys l : List ℕ) → in_range s ≡ true → s.seed < 4294967296
    → l ≡ xs ++ settings_bytes o s ++ ys → length xs ≡ at → settings_at o at l ≡ s
unfolding settings_bytes settings_at
settings_back o s at xs ys l range seed e n = ap settings_by (fields_back o the_fields s at xs ys l e n (fitting s range seed))

-- What the calls from C store.
use mathlib.Core.Path.{◌≡◌, refl, ap, sym, subst, ◌∙◌}
use mathlib.Core.Bool.{not}
use mathlib.Core.List.{List, [], ◌∷◌, ◌++◌, append-nil, append_assoc}
use Prim.Native.Nat.{ℕ, zero, suc, ◌+◌, ◌*◌, ◌≤◌, ◌<◌}
use native.Mathlib.Omega.{arith}
use native.Mathlib.Numerals.{add-one}
use native.Mathlib.Nat.{zero-add}
use lib.ListN.{length, take, drop, get_or, length-append}
use lib.Seq.{sets, sets-eq, take-suc, length-take-le, take_at, drop_at, drop-drop}
use borrow.Author.Tests.{le-leb, lt-leb}
use Rattle.word.specs.declared.Order.{Order}
use Rattle.word.specs.Number.{bytes_of, number_of, number_at}
use Rattle.word.proofs.Laws.{sets_append, length_bytes, number_back}
use Rattle.refusal.specs.Refusals.{no_room}
use Rattle.refusal.proofs.Laws.{unstored}
use Rattle.trace.specs.declared.Summary.{Summary}
use Rattle.trace.specs.Check.Checked.{Accepted, Refused}
use Rattle.trace.specs.Check.{refusal_of, check_of, trace_of}
use Rattle.trace.proofs.Accept.{accepted, refused_is}
use Rattle.tally.specs.declared.Tally.{Tally}
use Rattle.tally.specs.Tally.{numbers_of}
use Rattle.fresh.specs.Fresh.{fresh_counts}
use Rattle.search.proofs.Count.{count_few}
use Rattle.distance.specs.Distance.{distance_at, within, misses_to, misses_at}
use Rattle.curve.specs.Curve.{curve_of, no_pins, curve_refusal, CurveInto}
use Rattle.curve.proofs.Called.{rest_of, rest_none, rest_pins, refusal_rest, granted, curve_long, curve_at, curve_whole}
use Rattle.host.specs.Counts.{counts_length, words_of, count_bytes, host_refusal, CountsInto}
use Rattle.host.specs.Curve.{curve_length, CurveBytesInto}

-- ---- the bytes of numbers

words_length : (o : Order) (l : List ℕ) → length (words_of o l) ≡ 4 * length l
words_length o [] = refl
words_length o (n ∷ l) = let h = words_length o l in let a = length-append (bytes_of o 4 n) (words_of o l) in let b = length_bytes o 4 n in omega arith

words_snoc : (o : Order) (l : List ℕ) (n : ℕ) → words_of o (l ++ (n ∷ [])) ≡ words_of o l ++ bytes_of o 4 n
words_snoc o [] n = append-nil (bytes_of o 4 n)
words_snoc o (m ∷ l) n = ap (λ (x : List ℕ). bytes_of o 4 m ++ x) (words_snoc o l n) ∙ sym (append_assoc (bytes_of o 4 m) (words_of o l) (bytes_of o 4 n))

-- those of one number more
pub words_more : (o : Order) (l out₀ out out' : List ℕ) (i : ℕ) → i < length l → out ≡ sets out₀ 0 (words_of o (take i l)) → out' ≡ sets out (4 * i) (bytes_of o 4 (get_or l i 0))
    → out' ≡ sets out₀ 0 (words_of o (take (i + 1) l))
words_more o l out₀ out out' i below e f =
    rw (
      f,
      e,
      add-one i,
      take-suc l i 0 below,
      words_snoc o (take i l) (get_or l i 0),
      sets_append (words_of o (take i l)) (bytes_of o 4 (get_or l i 0)) out₀ 0,
      words_length o (take i l),
      length-take-le i l (omega arith),
      zero-add,
    )

-- number i stands 4 × i bytes on
pub words_at_lem : (o : Order) (l rest : List ℕ) (i : ℕ) → i < length l → take 4 (drop (4 * i) (words_of o l ++ rest)) ≡ bytes_of o 4 (get_or l i 0)
words_at_lem o [] rest i h = absurd (omega arith)
words_at_lem o (n ∷ l) rest zero h =
    ap (take 4) (append_assoc (bytes_of o 4 n) (words_of o l) rest) ∙ take_at (bytes_of o 4 n) (words_of o l ++ rest) 4 (length_bytes o 4 n)
words_at_lem o (n ∷ l) rest (suc i) h =
    let e : 4 * suc i ≡ 4 + 4 * i = omega arith in
    rw e
    (ap (take 4) (sym (drop-drop (4 * i) 4 ((bytes_of o 4 n ++ words_of o l) ++ rest)))
    ∙ ap (λ (k : List ℕ). take 4 (drop (4 * i) k)) (ap (drop 4) (append_assoc (bytes_of o 4 n) (words_of o l) rest) ∙ drop_at (bytes_of o 4 n) (words_of o l ++ rest) 4 (length_bytes o 4 n))
    ∙ words_at_lem o l rest i (omega arith))

-- ---- the calls

module _ (s out : List ℕ) where
  pub host_refused : (r : ℕ) → check_of s ≡ Refused r → CountsInto s out r out
  unfolding host_refusal
  host_refused r e = let f = refused_is s r e in go r f.0 f.1
    where
      go : (n : ℕ) → refusal_of s ≡ n → (n ≡ 0 → ⊥) → CountsInto s out n out
      go zero h ne = absurd (ne refl)
      go (suc n) h ne = record { answers = rw h; out_holds = rw h }

  module _ (h : Summary) (e : check_of s ≡ Accepted h) where
    pub host_no_room : length out < counts_length → CountsInto s out no_room out
    unfolding host_refusal
    host_no_room l = record { answers = rw ((accepted s h e).0, lt-leb counts_length (length out) l); out_holds = rw ((accepted s h e).0, lt-leb counts_length (length out) l) }

    pub host_counted : (t : Tally) (l out' : List ℕ) → counts_length ≤ length out → t ≡ fresh_counts (trace_of s) → l ≡ numbers_of t → out' ≡ sets out 0 (words_of h.order l) → CountsInto s out 0 out'
    unfolding host_refusal count_bytes
    host_counted t l out' m x n y = record {
      answers = rw ((accepted s h e).0, le-leb counts_length (length out) m);
      out_holds = y ∙ rw (n, x, (accepted s h e).1, (accepted s h e).0, le-leb counts_length (length out) m);
    }

  -- the curve, from what the engine answers where it is lent a place for each size
  pub curve_refused : (r : ℕ) → curve_refusal s curve_length (length out) ≡ r → (r ≡ 0 → ⊥) → CurveBytesInto s out r out
  curve_refused r e ne = record { answers = sym e; out_holds = rw e (unstored r (words_of (trace_of s).order (curve_of (trace_of s).pages)) out ne) }

  module _ (h : Summary) (e : check_of s ≡ Accepted h) (list list' : List ℕ) (z : length list ≡ 128) (r : ℕ) (c : CurveInto s list r list') where
    engine_rest : rest_of (no_pins (trace_of s).kinds) 128 128 ≡ r
    engine_rest = sym (refusal_rest s 128 128 h e) ∙ ap (curve_refusal s 128) (sym z) ∙ sym c.answers

    whole : r ≡ 0 → list' ≡ curve_of (trace_of s).pages
    whole q = curve_whole s list list' z (subst (λ (n : ℕ). CurveInto s list n list') q c)

    pub curve_fits : r ≡ 0 → curve_length ≤ length out → 4 * length list' ≤ length out
    curve_fits q l = let a = ap length (whole q) in let b = curve_long (trace_of s).pages in omega arith

    pub curve_pins : (r ≡ 0 → ⊥) → CurveBytesInto s out r out
    curve_pins ne = curve_refused r (refusal_rest s curve_length (length out) h e ∙ rest_pins (no_pins (trace_of s).kinds) curve_length (length out) r engine_rest ne) ne

    pub curve_no_room : r ≡ 0 → length out < curve_length → CurveBytesInto s out no_room out
    curve_no_room q l =
        let p = (rest_none (no_pins (trace_of s).kinds) 128 128 (engine_rest ∙ q)).0 in
        curve_refused no_room (refusal_rest s curve_length (length out) h e ∙ rw (p, lt-leb curve_length (length out) l)) (λ x. omega arith)

    pub curve_stored : (out' : List ℕ) → r ≡ 0 → curve_length ≤ length out → out' ≡ sets out 0 (words_of h.order list') → CurveBytesInto s out 0 out'
    curve_stored out' q l y =
        let p = (rest_none (no_pins (trace_of s).kinds) 128 128 (engine_rest ∙ q)).0 in
        let none : curve_refusal s curve_length (length out) ≡ 0 = refusal_rest s curve_length (length out) h e ∙ rw (p, le-leb curve_length (length out) l) in
        let order_is = ap (λ (x : Summary). sets out 0 (words_of x.order (curve_of (trace_of s).pages))) (accepted s h e).1 in
        record {
          answers = sym none;
          out_holds = rw none (y ∙ ap (λ (x : List ℕ). sets out 0 (words_of h.order x)) (whole q) ∙ order_is);
        }

-- the 4 bytes of size i + 1, in the trace's own order, are its misses
pub curve_bytes_at : (s out out' : List ℕ) → CurveBytesInto s out 0 out' → (i : ℕ) → i < 128 → length (trace_of s).pages < 4294967296
    → number_at (trace_of s).order 4 (4 * i) out' ≡ misses_at (trace_of s).pages (suc i)
unfolding misses_to
curve_bytes_at s out out' c i l few =
    let o = (trace_of s).order in
    let pages = (trace_of s).pages in
    let v = curve_of pages in
    let z = curve_long pages in
    let w = words_length o v in
    let room = (granted s curve_length (length out) (sym c.answers)).2 in
    let stores : out' ≡ words_of o v ++ drop (0 + length (words_of o v)) out = c.out_holds ∙ rw (← c.answers) (sets-eq (words_of o v) out 0 (omega arith)) in
    let n = count_few (λ j. not (within (suc i) (distance_at pages j))) (length pages) in
    ap (λ (k : List ℕ). number_of o (take 4 (drop (4 * i) k))) stores
    ∙ ap (number_of o) (words_at_lem o v (drop (0 + length (words_of o v)) out) i (omega arith))
    ∙ ap (λ (k : ℕ). number_of o (bytes_of o 4 k)) (curve_at pages i l)
    ∙ number_back o 4 (misses_to pages (suc i) (length pages)) (omega arith)

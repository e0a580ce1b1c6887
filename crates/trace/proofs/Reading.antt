-- The reader's answers, one law a way, and writing what was read.
use mathlib.Core.Path.{◌≡◌, refl, sym, ap, ◌∙◌}
use mathlib.Core.List.{List}
use mathlib.Core.Bool.{Bool, true, false, ◌&&◌, and-eq-true_iff}
use Prim.Native.Nat.{ℕ, zero, suc, ◌≤◌}
use native.Mathlib.Omega.{arith}
use lib.ListN.{length, take}
use lib.Seq.{sets}
use lib.Dec.{leb}
use borrow.Author.Tests.{leb-true, le-leb}
use Rattle.word.proofs.Laws.{Bytes, sets_front}
use Rattle.refusal.specs.Refusals.{demand, or_else, no_room}
use Rattle.refusal.proofs.Laws.{met, neither, or_first, unstored}
use Rattle.trace.specs.Layout.{record_limit}
use Rattle.trace.specs.Check.{summary_of, refusal_of, trace_of, check_of, read_refusal, ReadInto, WritesAgain, Checked}
use Rattle.trace.specs.declared.Summary.{Summary}
use Rattle.trace.specs.Check.Checked.{Refused, Accepted}
use Rattle.trace.proofs.Laws.{refused, refuses, accepts}
use Rattle.trace.proofs.Accept.{accepted, refused_is, counts_are}
use Rattle.trace.proofs.Whole.{proper, encode_trace}

-- a list of p places for pages and one of k for kinds hold n
abbrev pub hold : ℕ → ℕ → ℕ → Bool
hold n p k = leb n p && leb n k

module _ (s pages kinds : List ℕ) (h : Summary) (e : check_of s ≡ Accepted h) where
  room_refusal : (fits : Bool) → hold h.count (length pages) (length kinds) ≡ fits → read_refusal s (length pages) (length kinds) ≡ demand fits no_room 0
  unfolding read_refusal
  room_refusal fits test = rw ((accepted s h e).0, (counts_are s h e).0, (counts_are s h e).1, test)

  pub read_whole : (pages' kinds' : List ℕ) → hold h.count (length pages) (length kinds) ≡ true
      → pages' ≡ sets pages 0 (trace_of s).pages → kinds' ≡ sets kinds 0 (trace_of s).kinds → ReadInto s pages kinds (Accepted h) pages' kinds'
  read_whole pages' kinds' test p k =
      let r = room_refusal true test in
      record { answers = rw r (ap Accepted (accepted s h e).1); pages_hold = rw r p; kinds_hold = rw r k }

  pub read_no_room : hold h.count (length pages) (length kinds) ≡ false → ReadInto s pages kinds (Refused no_room) pages kinds
  read_no_room test = let r = room_refusal false test in record { answers = rw r; pages_hold = rw r; kinds_hold = rw r }

pub read_refused : (s pages kinds : List ℕ) (r : ℕ) → check_of s ≡ Refused r → ReadInto s pages kinds (Refused r) pages kinds
unfolding read_refusal
read_refused s pages kinds r e =
    let f = refused_is s r e in
    let t = trace_of s in
    let next = demand (leb (length t.pages) (length pages) && leb (length t.kinds) (length kinds)) no_room 0 in
    let first : or_else (refusal_of s) next ≡ r = rw f.0 (sym (or_first r next f.1)) in
    record {
      answers = rw first (refused r t f.1);
      pages_hold = rw first (unstored r t.pages pages f.1);
      kinds_hold = rw first (unstored r t.kinds kinds f.1);
    }

-- a reader that refuses nothing has room for the records of a trace that nothing refuses
pub read_grants : (s : List ℕ) (pages kinds : ℕ) → read_refusal s pages kinds ≡ 0
    → (refusal_of s ≡ 0) × (length (trace_of s).pages ≤ pages) × (length (trace_of s).kinds ≤ kinds)
unfolding read_refusal
read_grants s pages kinds z =
    let p = leb (length (trace_of s).pages) pages in
    let k = leb (length (trace_of s).kinds) kinds in
    let n = neither (refusal_of s) (demand (p && k) no_room 0) z in
    let b = (and-eq-true_iff p k).0 (met (p && k) no_room 0 (omega arith) n.1).0 in
    (n.0, leb-true (length (trace_of s).pages) pages b.0, leb-true (length (trace_of s).kinds) kinds b.1)

-- a reader with room for the longest trace refuses no more than the checker
read_roomy : (s : List ℕ) (pages kinds : ℕ) → Bytes s → record_limit ≤ pages → record_limit ≤ kinds → read_refusal s pages kinds ≡ refusal_of s
unfolding read_refusal
read_roomy s pages kinds bs p k = go (refusal_of s) refl
  where
    go : (n : ℕ) → refusal_of s ≡ n → or_else (refusal_of s) (demand (leb (length (trace_of s).pages) pages && leb (length (trace_of s).kinds) kinds) no_room 0) ≡ refusal_of s
    go (suc n) e = rw e
    go zero e =
        let held = proper s bs e in
        let few : length (trace_of s).kinds ≤ kinds = rw (← held.same) (omega (arith, held.few)) in
        rw (e, le-leb (length (trace_of s).pages) pages (omega (arith, held.few)), le-leb (length (trace_of s).kinds) kinds few)

-- what the reader gives of a trace that it accepts is the trace
pub read_gives : (s pages kinds : List ℕ) (answer : Checked) (pages' kinds' : List ℕ) (h : Summary) → Bytes s → ReadInto s pages kinds answer pages' kinds' → answer ≡ Accepted h
    → (refusal_of s ≡ 0) × (h ≡ summary_of (trace_of s)) × (take h.count pages' ≡ (trace_of s).pages) × (take h.count kinds' ≡ (trace_of s).kinds)
read_gives s pages kinds answer pages' kinds' h bs i e =
    let t = trace_of s in
    let n = length t.pages in
    let a = accepts (read_refusal s (length pages) (length kinds)) t h (sym i.answers ∙ e) in
    let g = read_grants s (length pages) (length kinds) a.0 in
    let same : length t.kinds ≡ n = sym (proper s bs g.0).same in
    let fits : n ≤ length kinds = rw same at g.2 in
    let p : take n pages' ≡ t.pages = rw (i.pages_hold, a.0) (sets_front pages t.pages n refl g.1) in
    let k : take n kinds' ≡ t.kinds = rw (i.kinds_hold, a.0) (sets_front kinds t.kinds n same fits) in
    (g.0, a.1, rw a.1 p, rw a.1 k)

-- and has the encoding that was read
pub writes_again : (s pages kinds : List ℕ) (answer : Checked) (pages' kinds' : List ℕ) → Bytes s → ReadInto s pages kinds answer pages' kinds' → WritesAgain s answer pages' kinds'
writes_again s pages kinds answer pages' kinds' bs i h e =
    let g = read_gives s pages kinds answer pages' kinds' h bs i e in
    rw (g.2, g.3, g.1) (encode_trace s bs g.0)

-- with room for the longest trace only the trace is refused
pub read_refuses : (s pages kinds : List ℕ) (answer : Checked) (pages' kinds' : List ℕ) (r : ℕ) → Bytes s → ReadInto s pages kinds answer pages' kinds'
    → record_limit ≤ length pages → record_limit ≤ length kinds → answer ≡ Refused r → (refusal_of s ≡ r) × (r ≡ 0 → ⊥)
read_refuses s pages kinds answer pages' kinds' r bs i p k e =
    let f = refuses (read_refusal s (length pages) (length kinds)) (trace_of s) r (sym i.answers ∙ e) in
    (sym (read_roomy s (length pages) (length kinds) bs p k) ∙ f.0, f.1)

-- any two outcomes that the reader's contract allows are the same
pub read_one : (s pages kinds : List ℕ) (a b : Checked) (pages₁ pages₂ kinds₁ kinds₂ : List ℕ)
    → ReadInto s pages kinds a pages₁ kinds₁ → ReadInto s pages kinds b pages₂ kinds₂ → (a ≡ b) × (pages₁ ≡ pages₂) × (kinds₁ ≡ kinds₂)
read_one s pages kinds a b pages₁ pages₂ kinds₁ kinds₂ x y =
    (x.answers ∙ sym y.answers, x.pages_hold ∙ sym y.pages_hold, x.kinds_hold ∙ sym y.kinds_hold)

-- What setting, importing and counting come to, one law a way.
use mathlib.Core.Path.{◌≡◌, refl, sym, ap, subst, ◌∙◌}
use mathlib.Core.List.{List}
use Prim.Native.Nat.{ℕ, zero, suc, ◌≤◌, ◌<◌}
use native.Mathlib.Omega.{arith}
use lib.ListN.{length, take}
use lib.Seq.{sets}
use borrow.Author.Tests.{lt-leb}
use Rattle.std.specs.Prelude.{Result, Ok, Err}
use Rattle.word.specs.declared.Order.{Order}
use Rattle.word.proofs.Laws.{Bytes, sets_front}
use Rattle.refusal.specs.Refusals.{too_many}
use Rattle.refusal.specs.declared.Refusal.{Refusal}
use Rattle.settings.specs.declared.Settings.{Settings}
use Rattle.refusal.proofs.Laws.{or_first, neither, unstored, number_some, number_injective}
use Rattle.trace.specs.declared.Summary.{Summary}
use Rattle.trace.specs.Layout.{Trace, trace_from, file_length, record_limit}
use Rattle.trace.specs.Encode.{encode}
use Rattle.trace.specs.Check.Checked.{Accepted}
use Rattle.trace.specs.Check.Checked.{Refused as Checked-as-Refused}
use Rattle.trace.specs.Check.{summary_of, refusal_of, trace_of, check_of}
use Rattle.trace.proofs.Accept.{accepted, refused_is}
use Rattle.trace.proofs.Whole.{proper, length_trace, decode_whole}
use Rattle.scribe.specs.Write.{write_refusal, WrittenTo, ReadsBack}
use Rattle.tally.specs.declared.Tally.{Tally}
use Rattle.fresh.specs.Fresh.{fresh_counts}
use Rattle.wish.specs.declared.Wish.{Wish}
use Rattle.wish.specs.Wish.{wished_for, wished_settings, usual_settings}
use Rattle.text.specs.Text.{lines_in, first_bad, pages_in, kinds_in}
use Rattle.text.proofs.Filling.{numbers_many}
use Rattle.amend.specs.declared.Fault.{Fault}
use Rattle.amend.specs.declared.Fault.TheVariants.{BadLine as At-line, Refused as By-refusal}
use Rattle.amend.specs.declared.Sheet.{Sheet}
use Rattle.amend.specs.declared.Uncounted.{Uncounted}
use Rattle.amend.specs.Amend.Imported.{BadLine, Refused, Written}
use Rattle.amend.specs.Amend.{wished_trace, set_refusal, SetInto, SetsBack, trace_in, imported_by, ImportedInto, ImportsBack, not_counted, counted_by, sheet_by, sheet_of, sheet_with}
use Rattle.amend.specs.Amend.{Counted}
use Rattle.amend.specs.Quote.{quote_tally}

-- a trace as written, under another name of its settings
pub written_as : (x y : Settings) (order : Order) (pages kinds out out' : List ℕ) (r : ℕ) → x ≡ y
    → WrittenTo (trace_from x order pages kinds) out r out' × ReadsBack (trace_from x order pages kinds) r out'
    → WrittenTo (trace_from y order pages kinds) out r out' × ReadsBack (trace_from y order pages kinds) r out'
written_as x y order pages kinds out out' r e =
    subst (λ (v : Settings). WrittenTo (trace_from v order pages kinds) out r out' × ReadsBack (trace_from v order pages kinds) r out') e

-- the trace that was read, with other settings
pub amended : (s : List ℕ) (w : Wish) (h : Summary) (pages kinds : List ℕ) → h ≡ summary_of (trace_of s) → pages ≡ (trace_of s).pages → kinds ≡ (trace_of s).kinds
    → trace_from (wished_settings w h.settings) h.order pages kinds ≡ wished_trace w (trace_of s)
amended s w h pages kinds e p k = rw (e, p, k)

module _ (s : List ℕ) (w : Wish) (out : List ℕ) where
  pub set_refused : (r : ℕ) → refusal_of s ≡ r → (r ≡ 0 → ⊥) → SetInto s w out r out × SetsBack s w r out
  unfolding set_refusal
  set_refused r e ne =
      let next = write_refusal (wished_trace w (trace_of s)) (length out) in
      let first = or_first r next ne in
      (record { answers = rw e first; bytes_hold = rw (e, ← first) (unstored r (encode (wished_trace w (trace_of s))) out ne) }, λ z. absurd (ne z))

  pub set_written : (r : ℕ) (out' : List ℕ) (t : Trace) → Bytes s → refusal_of s ≡ 0 → t ≡ wished_trace w (trace_of s) → WrittenTo t out r out' → ReadsBack t r out'
      → SetInto s w out r out' × SetsBack s w r out'
  unfolding set_refusal
  set_written r out' t bs e f x y =
      let x' = subst (λ (v : Trace). WrittenTo v out r out') f x in
      let y' = subst (λ (v : Trace). ReadsBack v r out') f y in
      (record { answers = rw e x'.answers; bytes_hold = rw e x'.bytes_hold }, λ z. rw (length_trace s bs e) (y' z))

-- the text's records, as they stand at the front of two lists
pub records_written : (text : List ℕ) (n : ℕ) (settings : Settings) (order : Order) (pages₀ kinds₀ pages kinds out out' : List ℕ) (r : ℕ)
    → n ≡ length (pages_in (lines_in text)) → n ≤ length pages₀ → n ≤ length kinds₀ → pages ≡ sets pages₀ 0 (pages_in (lines_in text)) → kinds ≡ sets kinds₀ 0 (kinds_in (lines_in text))
    → WrittenTo (trace_from settings order (take n pages) (take n kinds)) out r out' × ReadsBack (trace_from settings order (take n pages) (take n kinds)) r out'
    → WrittenTo (trace_from settings order (pages_in (lines_in text)) (kinds_in (lines_in text))) out r out'
    × ReadsBack (trace_from settings order (pages_in (lines_in text)) (kinds_in (lines_in text))) r out'
records_written text n settings order pages₀ kinds₀ pages kinds out out' r e lp lk p k =
    let ps = pages_in (lines_in text) in
    let ks = kinds_in (lines_in text) in
    let tp : take n pages ≡ ps = rw p (sets_front pages₀ ps n (sym e) lp) in
    let tk : take n kinds ≡ ks = rw k (sets_front kinds₀ ks n (sym (numbers_many (lines_in text)) ∙ sym e) lk) in
    let same : trace_from settings order (take n pages) (take n kinds) ≡ trace_from settings order ps ks = rw (tp, tk) in
    subst (λ (t : Trace). WrittenTo t out r out' × ReadsBack t r out') same

module _ (text : List ℕ) (w : Wish) (order : Order) (out : List ℕ) where
  pub import_bad : (line : ℕ) → line ≡ first_bad 0 (lines_in text) → (line ≡ 0 → ⊥) → ImportedInto text w order out (BadLine line) out × ImportsBack text w order (BadLine line) out
  import_bad zero e ne = absurd (ne refl)
  import_bad (suc n) e ne = (record { answers = rw (← e); bytes_hold = rw (← e) }, λ k z. absurd (let y : ◌≡◌ {A = ℕ} 0 1 = cc in omega arith))

  module _ (good : first_bad 0 (lines_in text) ≡ 0) where
    pub import_refused : (r : ℕ) → r ≡ write_refusal (trace_in text w order) (length out) → (r ≡ 0 → ⊥)
        → ImportedInto text w order out (Refused r) out × ImportsBack text w order (Refused r) out
    import_refused zero e ne = absurd (ne refl)
    import_refused (suc n) e ne = (record { answers = rw (good, ← e); bytes_hold = rw (good, ← e) }, λ k z. absurd (let y : ◌≡◌ {A = ℕ} 0 1 = cc in omega arith))

    too_many_lem : record_limit < length (pages_in (lines_in text)) → write_refusal (trace_in text w order) (length out) ≡ too_many
    unfolding write_refusal
    too_many_lem l = rw (lt-leb (length (pages_in (lines_in text))) record_limit l)

    pub import_many : record_limit < length (pages_in (lines_in text)) → ImportedInto text w order out (Refused too_many) out × ImportsBack text w order (Refused too_many) out
    import_many l = import_refused too_many (sym (too_many_lem l)) (λ z. omega arith)

    -- what the writer came to
    pub import_written : (settings : Settings) (r n : ℕ) (out' : List ℕ) → settings ≡ wished_settings w usual_settings → n ≡ length (pages_in (lines_in text))
        → WrittenTo (trace_from settings order (pages_in (lines_in text)) (kinds_in (lines_in text))) out r out'
        × ReadsBack (trace_from settings order (pages_in (lines_in text)) (kinds_in (lines_in text))) r out'
        → r ≡ 0 → ImportedInto text w order out (Written (file_length n)) out' × ImportsBack text w order (Written (file_length n)) out'
    import_written settings r n out' e l x z =
        let y = written_as settings (wished_settings w usual_settings) order (pages_in (lines_in text)) (kinds_in (lines_in text)) out out' r e x in
        let none = sym y.0.answers ∙ z in (
          record { answers = rw (good, none, l); bytes_hold = y.0.bytes_hold ∙ rw (good, none) },
          λ k q. let size : file_length n ≡ k = cc in rw (← size, l) (y.1 z),
        )

    pub import_unwritten : (settings : Settings) (r : ℕ) (out' : List ℕ) → settings ≡ wished_settings w usual_settings
        → WrittenTo (trace_from settings order (pages_in (lines_in text)) (kinds_in (lines_in text))) out r out'
        → (r ≡ 0 → ⊥) → ImportedInto text w order out (Refused r) out' × ImportsBack text w order (Refused r) out'
    import_unwritten settings r out' e x ne =
        let y = subst (λ (v : Settings). WrittenTo (trace_from v order (pages_in (lines_in text)) (kinds_in (lines_in text))) out r out') e x in
        let same : out ≡ out' = unstored r (encode (trace_in text w order)) out ne ∙ rw y.answers (sym y.bytes_hold) in
        subst (λ (o : List ℕ). ImportedInto text w order out (Refused r) o × ImportsBack text w order (Refused r) o) same (import_refused r y.answers ne)

-- two answers that are read alike are the same
pub imported_one : (a b : Result ℕ Fault) → imported_by a ≡ imported_by b → a ≡ b
imported_one (Ok n) (Ok m) e = cc
imported_one (Ok n) (Err (At-line m)) e = cc
imported_one (Ok n) (Err (By-refusal q)) e = cc
imported_one (Err (At-line n)) (Ok m) e = cc
imported_one (Err (At-line n)) (Err (At-line m)) e = cc
imported_one (Err (At-line n)) (Err (By-refusal q)) e = cc
imported_one (Err (By-refusal r)) (Ok m) e = cc
imported_one (Err (By-refusal r)) (Err (At-line m)) e = cc
imported_one (Err (By-refusal r)) (Err (By-refusal q)) e = ap (λ (x : Refusal). Err (By-refusal x)) (number_injective r q (cc))

-- ---- the sheet's numbers

-- two sheets that are read alike are the same, and so is what was handed back in their place
pub counted_one : (a b : Result Sheet Uncounted) → counted_by a ≡ counted_by b → a ≡ b
counted_one (Ok x) (Ok y) e = λ i. Ok (record { settings = (e i).settings; count = (e i).count; tally = (e i).tally })
counted_one (Ok x) (Err v) e = let n = number_some v.refusal in let z = ap (λ (k : Counted). k.refusal) e in absurd (omega arith)
counted_one (Err u) (Ok y) e = let n = number_some u.refusal in let z = ap (λ (k : Counted). k.refusal) e in absurd (omega arith)
counted_one (Err u) (Err v) e =
    let n = number_injective u.refusal v.refusal (ap (λ (k : Counted). k.refusal) e) in
    λ i. Err (record { refusal = n i; sheet = record { settings = (e i).settings; count = (e i).count; tally = (e i).tally } })

module _ (s : List ℕ) where
  pub counted_whole : (h : Summary) (t : Tally) → check_of s ≡ Accepted h → t ≡ fresh_counts (trace_of s)
      → record { refusal = 0; settings = h.settings; count = h.count; tally = t } ≡ sheet_of s
  unfolding sheet_by
  counted_whole h t e x = let a = accepted s h e in rw (a.0, a.1, x)

  pub counted_refused : (r : ℕ) (k : Counted) → check_of s ≡ Checked-as-Refused r → k ≡ not_counted r → k ≡ sheet_of s
  unfolding sheet_by
  counted_refused r k e x = let f = refused_is s r e in go r f.0 f.1 x
    where
      go : (n : ℕ) → refusal_of s ≡ n → (n ≡ 0 → ⊥) → k ≡ not_counted n → k ≡ sheet_by (refusal_of s) (trace_of s)
      go zero h ne y = absurd (ne refl)
      go (suc n) h ne y = rw h y

module _ (s : List ℕ) (w : Wish) where
  -- what is set is no longer than the longest trace
  pub set_short : (room : ℕ) → Bytes s → set_refusal s w room ≡ 0 → length s ≤ file_length record_limit
  unfolding set_refusal
  set_short room bs z =
      let none = (neither (refusal_of s) (write_refusal (wished_trace w (trace_of s)) room) z).0 in
      let few = (proper s bs none).few in
      rw (length_trace s bs none) (omega arith)

  pub with_refused : (room r : ℕ) (k : Counted) → room ≡ file_length record_limit → r ≡ set_refusal s w room → (r ≡ 0 → ⊥) → k ≡ not_counted r → k ≡ sheet_with s w
  unfolding sheet_by
  with_refused room zero k l e ne x = absurd (ne refl)
  with_refused room (suc r) k l e ne x = x ∙ rw (← l, ← e)

  pub with_whole : (room r : ℕ) (out : List ℕ) (k : Counted) → room ≡ file_length record_limit → r ≡ set_refusal s w room → r ≡ 0 → SetsBack s w r out → k ≡ sheet_of (take (length s) out) → k ≡ sheet_with s w
  with_whole room r out k l e z back x =
      let d = decode_whole (take (length s) out) (wished_trace w (trace_of s)) (back z) in
      let none : set_refusal s w (file_length record_limit) ≡ 0 = rw (← l) (sym e ∙ z) in
      x ∙ rw (d.0, d.1, none)

-- a line's counts under one rule
pub quoted : (s : List ℕ) (w one two : Wish) (rule frames : ℕ) (c : Counted) → one ≡ wished_for w 1 frames → two ≡ wished_for one 0 rule → c ≡ sheet_with s two → c.tally ≡ quote_tally s w rule frames
quoted s w one two rule frames c e f x = rw (x, f, e)

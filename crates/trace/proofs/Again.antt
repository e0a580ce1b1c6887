-- Encoding what was read gives the bytes again.
use mathlib.Core.Path.{◌≡◌, refl, ap, ◌∙◌}
use mathlib.Core.List.{List, [], ◌∷◌, ◌++◌, append_assoc, append-nil}
use mathlib.Core.Bool.{Bool, true, false, ◌&&◌, and-eq-true_iff}
use Prim.Native.Nat.{ℕ, zero, suc, ◌+◌, ◌*◌, ◌≤◌, ◌<◌}
use native.Mathlib.Nat.{add_assoc}
use native.Mathlib.Omega.{arith}
use lib.ListN.{length, get_or, take}
use lib.Seq.{take_all}
use lib.Dec.{eqb}
use borrow.Author.Tests.{eqb-true}
use Rattle.std.specs.Prelude.{Some, None}
use Rattle.word.proofs.Laws.{Bytes, part}
use Rattle.word.specs.declared.Order.{Order}
use Rattle.word.specs.declared.Order.TheVariants.{High, Low}
use Rattle.search.specs.Search.{pick}
use Rattle.settings.specs.Settings.{settings_bytes}
use Rattle.settings.proofs.Places.{join, join_is, settings_join}
use Rattle.trace.specs.Layout.{mark_high, mark_low, begins, mark_of, file_length, edition_at, first_zero_at, count_at, offset_at, writes_at, length_at, last_zero_at, settings_in, page_at, kind_at, zero_at, pages_at, kinds_at, writes_in, trace_at}
use Rattle.trace.specs.Encode.{mark_bytes, header_bytes, record_bytes, records_to, encode}
use Rattle.trace.proofs.Lists.{length_up_to, up_to_at, zero_at_lem}
use Rattle.trace.proofs.Accept.{Passed}

-- ---- the mark that was found stands in the first four bytes

first4 : List ℕ → List ℕ
first4 m = get_or m 0 0 ∷ get_or m 1 0 ∷ get_or m 2 0 ∷ get_or m 3 0 ∷ []

begins_is : (s m : List ℕ) → begins s m ≡ true → first4 s ≡ first4 m
unfolding first4
begins_is s m e =
    let t3 = eqb (get_or s 3 0) (get_or m 3 0) in
    let t2 = eqb (get_or s 2 0) (get_or m 2 0) in
    let t1 = eqb (get_or s 1 0) (get_or m 1 0) in
    let b0 = (and-eq-true_iff (eqb (get_or s 0 0) (get_or m 0 0)) (t1 && (t2 && t3))).0 e in
    let b1 = (and-eq-true_iff t1 (t2 && t3)).0 b0.1 in
    let b2 = (and-eq-true_iff t2 t3).0 b1.1 in
    rw (
      eqb-true (get_or s 0 0) (get_or m 0 0) b0.0,
      eqb-true (get_or s 1 0) (get_or m 1 0) b1.0,
      eqb-true (get_or s 2 0) (get_or m 2 0) b2.0,
      eqb-true (get_or s 3 0) (get_or m 3 0) b2.1,
    )

high_found : (a b : Bool) → pick a (Some High) (pick b (Some Low) None) ≡ Some High → a ≡ true
high_found true b h = refl
high_found false true h = absurd (let z : ◌≡◌ {A = ℕ} 0 1 = cc in omega arith)
high_found false false h = absurd (let z : ◌≡◌ {A = ℕ} 0 1 = cc in omega arith)

low_found : (a b : Bool) → pick a (Some High) (pick b (Some Low) None) ≡ Some Low → b ≡ true
low_found true b h = absurd (let z : ◌≡◌ {A = ℕ} 0 1 = cc in omega arith)
low_found false true h = refl
low_found false false h = absurd (let z : ◌≡◌ {A = ℕ} 0 1 = cc in omega arith)

pub mark_again : (o : Order) (s : List ℕ) → 4 ≤ length s → mark_of s ≡ Some o → take 4 s ≡ mark_bytes o
unfolding first4
mark_again High s h e = part 4 0 s (omega arith) ∙ begins_is s mark_high (high_found (begins s mark_high) (begins s mark_low) e)
mark_again Low s h e = part 4 0 s (omega arith) ∙ begins_is s mark_low (low_found (begins s mark_high) (begins s mark_low) e)

module _ (o : Order) (s : List ℕ) (bs : Bytes s) where
  header_again : (n w : ℕ) → 48 ≤ length s → take 4 s ≡ mark_bytes o → edition_at o s ≡ 1 → first_zero_at o s ≡ 0 → count_at o s ≡ n
      → offset_at o s ≡ 48 → writes_at o s ≡ w → length_at o s ≡ file_length n → last_zero_at o s ≡ 0
      → header_bytes o (settings_in o s) n w ≡ take 48 s
  unfolding header_bytes
  header_again n w h mark e4 e6 e8 e12 e16 e20 e44 =
      let h44 : 44 ≤ length s = omega arith in
      let set : take 24 s ++ settings_bytes o (settings_in o s) ≡ take 44 s = settings_join o s bs 24 h44 in
      rw (
        ← mark,
        join_is o s bs 4 2 1 (omega arith) e4,
        join_is o s bs 6 2 0 (omega arith) e6,
        join_is o s bs 8 4 n (omega arith) e8,
        join_is o s bs 12 4 48 (omega arith) e12,
        join_is o s bs 16 4 w (omega arith) e16,
        join_is o s bs 20 4 (file_length n) (omega arith) e20,
        set,
        join_is o s bs 44 4 0 (omega arith) e44,
      )

  records_again : (pages kinds : List ℕ) (i : ℕ) → file_length i ≤ length s
      → ((k : ℕ) → k < i → get_or pages k 0 ≡ page_at o s k) → ((k : ℕ) → k < i → get_or kinds k 0 ≡ kind_at o s k) → ((k : ℕ) → k < i → zero_at o s k ≡ 0)
      → take 48 s ++ records_to o pages kinds i ≡ take (file_length i) s
  unfolding record_bytes
  records_again pages kinds zero h hp hk hz = append-nil (take 48 s)
  records_again pages kinds (suc i) h hp hk hz =
      let ih = records_again pages kinds i (omega arith) (λ k l. hp k (omega arith)) (λ k l. hk k (omega arith)) (λ k l. hz k (omega arith)) in
      let p = hp i (omega arith) in
      let k = hk i (omega arith) in
      let z = hz i (omega arith) in
      let at = 48 + 8 * i in
      let e : at + 6 + 2 ≡ 48 + 8 * suc i = omega arith in
      rw (p, k)
      (simp (← append_assoc)
      (rw (ih, join o s bs at 4 (omega arith), join o s bs (at + 4) 2 (omega arith), add_assoc at 4 2, join_is o s bs (at + 6) 2 0 (omega arith) z)
      (ap (λ (m : ℕ). take m s) e)))

-- encoding the trace of bytes that nothing refuses gives the bytes
pub encode_again : (o : Order) (s : List ℕ) → Bytes s → Passed o s → encode (trace_at o s) ≡ s
unfolding encode trace_at
encode_again o s bs h =
    let n = count_at o s in
    let pages = pages_at o s in
    let kinds = kinds_at o s in
    let l = h.laid in
    let f = h.fill in
    let hp : (i : ℕ) → i < n → get_or pages i 0 ≡ page_at o s i = λ i lt. up_to_at (page_at o s) n i lt in
    let hk : (i : ℕ) → i < n → get_or kinds i 0 ≡ kind_at o s i = λ i lt. up_to_at (kind_at o s) n i lt in
    let hz : (i : ℕ) → i < n → zero_at o s i ≡ 0 = zero_at_lem (zero_at o s) n f.zeros in
    let l48 : 48 ≤ length s = omega (arith, l.long) in
    let size : file_length n ≤ length s = omega (arith, l.long) in
    rw (
      length_up_to (page_at o s) n,
      header_again o s bs n (writes_in kinds) l48 (mark_again o s (omega arith) h.mark) l.edition_is f.zero₁ refl l.offset f.writes l.field f.zero₂,
      records_again o s bs pages kinds n size hp hk hz,
    )
    (take_all (file_length n) s (omega (arith, l.long)))

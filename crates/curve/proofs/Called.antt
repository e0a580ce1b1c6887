-- What a call for the curve answers and stores.
use mathlib.Core.Path.{◌≡◌, ap, sym, ◌∙◌}
use mathlib.Core.Bool.{Bool, true, false}
use mathlib.Core.List.{List, ◌++◌, map, append-nil}
use Prim.Native.Nat.{ℕ, suc, ◌+◌, ◌≤◌, ◌<◌}
use native.Mathlib.Omega.{arith}
use lib.ListN.{length, get_or, drop, drop_of_length-le, get_or-append}
use lib.Seq.{sets, sets-eq}
use lib.Dec.{leb}
use borrow.Author.Tests.{leb-true}
use Rattle.refusal.specs.Refusals.{demand, no_room, has_pins}
use Rattle.refusal.proofs.Laws.{met, or_first, neither, unstored}
use Rattle.trace.specs.declared.Summary.{Summary}
use Rattle.trace.specs.Check.Checked.{Accepted, Refused}
use Rattle.trace.specs.Check.{refusal_of, check_of, trace_of}
use Rattle.trace.proofs.Accept.{accepted, refused_is, counts_are}
use Rattle.trace.proofs.Lists.{length_up_to, up_to_at}
use Rattle.distance.specs.Distance.{misses_at}
use Rattle.distance.proofs.Fewer.{fewer_misses}
use Rattle.distance.proofs.Renaming.{Apart, misses_renamed}
use Rattle.curve.specs.Curve.{curve_of, NeverRises, no_pins, curve_refusal, CurveInto}
use Rattle.curve.specs.ForCode.{Times, leavings}
use Rattle.curve.proofs.Counting.{up_to_cong, curve_is}

-- 17, then 13, of an accepted trace
abbrev pub rest_of : Bool → ℕ → ℕ → ℕ
rest_of plain needed room = demand plain has_pins (demand (leb needed room) no_room 0)

-- where neither is given, there is no pin and room enough
pub rest_none : (plain : Bool) (needed room : ℕ) → rest_of plain needed room ≡ 0 → (plain ≡ true) × (needed ≤ room)
rest_none plain needed room e =
    let a = met plain has_pins (demand (leb needed room) no_room 0) (omega arith) e in
    let b = met (leb needed room) no_room 0 (omega arith) a.1 in
    (a.0, leb-true needed room b.0)

-- a pin is told whatever the room
pub rest_pins : (plain : Bool) (needed room r : ℕ) → rest_of plain 128 128 ≡ r → (r ≡ 0 → ⊥) → rest_of plain needed room ≡ r
rest_pins true needed room r e ne = absurd (ne (sym e))
rest_pins false needed room r e ne = e

module _ (s : List ℕ) (needed room : ℕ) where
  pub refusal_first : (r : ℕ) → check_of s ≡ Refused r → (curve_refusal s needed room ≡ r) × (r ≡ 0 → ⊥)
  unfolding curve_refusal
  refusal_first r e =
      let f = refused_is s r e in
      (sym (or_first (refusal_of s) _ (λ z. f.1 (sym f.0 ∙ z))) ∙ f.0, f.1)

  pub refusal_rest : (h : Summary) → check_of s ≡ Accepted h → curve_refusal s needed room ≡ rest_of (no_pins (trace_of s).kinds) needed room
  unfolding curve_refusal
  refusal_rest h e = rw (accepted s h e).0

module _ (s list : List ℕ) where
  pub curve_refused : (r : ℕ) → curve_refusal s 128 (length list) ≡ r → (r ≡ 0 → ⊥) → CurveInto s list r list
  curve_refused r e ne = record { answers = sym e; list_holds = rw e (unstored r (curve_of (trace_of s).pages) list ne) }

  module _ (h : Summary) (e : check_of s ≡ Accepted h) (plain : Bool) (p : plain ≡ no_pins (trace_of s).kinds) where
    pub rest_is : curve_refusal s 128 (length list) ≡ rest_of plain 128 (length list)
    rest_is = refusal_rest s 128 (length list) h e ∙ ap (λ (b : Bool). rest_of b 128 (length list)) (sym p)

    pub curve_given : (times list' : List ℕ) → rest_of plain 128 (length list) ≡ 0 → Times (trace_of s).pages times h.count → list' ≡ sets list 0 (leavings times h.count 128)
        → CurveInto s list 0 list'
    curve_given times list' z t m =
        let none = rest_is ∙ z in record {
          answers = sym none;
          list_holds = rw none (m ∙ ap (sets list 0) (curve_is (trace_of s).pages times h.count t (counts_are s h e).0));
        }

-- a list of a place for each size holds the curve and nothing else
pub curve_long : (pages : List ℕ) → length (curve_of pages) ≡ 128
unfolding curve_of
curve_long pages = length_up_to (λ i. misses_at pages (suc i)) 128

sets_all : (l v : List ℕ) → length l ≡ length v → sets l 0 v ≡ v
sets_all l v e =
    sets-eq v l 0 (omega arith)
    ∙ ap (λ (r : List ℕ). v ++ r) (drop_of_length-le l {i = 0 + length v} (omega arith))
    ∙ append-nil v

pub curve_whole : (s list list' : List ℕ) → length list ≡ 128 → CurveInto s list 0 list' → list' ≡ curve_of (trace_of s).pages
curve_whole s list list' z c = c.list_holds ∙ rw (← c.answers) (sets_all list (curve_of (trace_of s).pages) (z ∙ sym (curve_long (trace_of s).pages)))

-- pages renamed one_to_one have the same curve
pub curve_renamed : (ρ : ℕ → ℕ) (pages : List ℕ) → Apart ρ pages → curve_of (map ρ pages) ≡ curve_of pages
unfolding curve_of
curve_renamed ρ pages a = up_to_cong (λ i. misses_at (map ρ pages) (suc i)) (λ i. misses_at pages (suc i)) 128 (λ i l. misses_renamed ρ pages (suc i) a)

-- a call that is not refused: the trace is accepted, without a pin, and there is room; place i of the list has the misses with i + 1 frames
pub granted : (s : List ℕ) (needed room : ℕ) → curve_refusal s needed room ≡ 0 → (refusal_of s ≡ 0) × (no_pins (trace_of s).kinds ≡ true) × (needed ≤ room)
unfolding curve_refusal
granted s needed room e =
    let n = neither (refusal_of s) (rest_of (no_pins (trace_of s).kinds) needed room) e in
    let r = rest_none (no_pins (trace_of s).kinds) needed room n.1 in
    (n.0, r.0, r.1)

pub curve_at : (pages : List ℕ) (i : ℕ) → i < 128 → get_or (curve_of pages) i 0 ≡ misses_at pages (suc i)
unfolding curve_of
curve_at pages i l = up_to_at (λ i. misses_at pages (suc i)) 128 i l

pub curve_place : (s list list' : List ℕ) → CurveInto s list 0 list' → (i : ℕ) → i < 128 → get_or list' i 0 ≡ misses_at (trace_of s).pages (suc i)
curve_place s list list' c i l =
    let v = curve_of (trace_of s).pages in
    let z = curve_long (trace_of s).pages in
    let room = (granted s 128 (length list) (sym c.answers)).2 in
    let stores : list' ≡ v ++ drop (0 + length v) list = c.list_holds ∙ rw (← c.answers) (sets-eq v list 0 (omega arith)) in
    ap (λ (k : List ℕ). get_or k i 0) stores ∙ get_or-append v (drop (0 + length v) list) 0 i (omega arith) ∙ curve_at (trace_of s).pages i l

-- and these never rise
pub never_rises : (s list list' : List ℕ) → CurveInto s list 0 list' → NeverRises list'
never_rises s list list' c i j l m =
    let a = curve_place s list list' c i (omega arith) in
    let b = curve_place s list list' c j m in
    let h = fewer_misses (trace_of s).pages (suc i) (suc j) (length (trace_of s).pages) (omega arith) in
    omega arith

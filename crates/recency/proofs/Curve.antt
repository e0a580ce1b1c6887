-- The curve's numbers are the misses of plain LRU replays.
use mathlib.Core.Path.{◌≡◌, refl}
use mathlib.Core.Bool.{true, ◌&&◌, and-eq-true_iff}
use mathlib.Core.List.{List}
use Prim.Native.Nat.{ℕ, ◌≤◌}
use native.Mathlib.Omega.{arith}
use lib.ListN.{length, get_or, get_or-eq_default}
use lib.Dec.{leb, ltb}
use borrow.Author.Tests.{le-leb, leb-true, ltb-true, ltb-false}
use Rattle.search.proofs.Every.{every_at}
use Rattle.settings.specs.declared.Settings.{Settings}
use Rattle.settings.specs.Settings.{between, span_limit, in_range}
use Rattle.trace.specs.Layout.{Trace}
use Rattle.trace.specs.Encode.{Proper}
use Rattle.tally.specs.Tally.{zero_tally}
use Rattle.distance.proofs.Stack.{by_test}
use Rattle.curve.specs.Curve.{no_pins}
use Rattle.recency.specs.Recency.{Plain}
use Rattle.recency.specs.Curve.{lru_with, CurveDemand}
use Rattle.recency.proofs.Recency.{recency_law}

-- the settings of each size are in range
pub lru_range : (s : Settings) (f : ℕ) → in_range s ≡ true → 1 ≤ f → f ≤ 128 → in_range (lru_with s f) ≡ true
unfolding in_range
lru_range s f h l m =
    let rest = between 1 16 s.batch && (between 1 7 s.cap && (between 1 16 s.sample && (between 0 16 s.weight && (between 1 span_limit s.span && true)))) in
    let a = (and-eq-true_iff (between 0 2 s.rule) (between 1 128 s.frames && rest)).0 h in
    let b = (and-eq-true_iff (between 1 128 s.frames) rest).0 a.1 in
    rw (le-leb 1 f l, le-leb f 128 m) b.1

-- no record is a pin or an unpin
pub plain_kind_lem : (kinds : List ℕ) → no_pins kinds ≡ true → (n : ℕ) → get_or kinds n 0 ≤ 1
unfolding no_pins
plain_kind_lem kinds h n =
    by_test (ltb n (length kinds))
    (λ e. leb-true (get_or kinds n 0) 1 (every_at (λ i. leb (get_or kinds i 0) 1) (length kinds) n h (ltb-true n (length kinds) e)))
    (λ e. let none = get_or-eq_default kinds 0 (ltb-false n (length kinds) e) in omega arith)

-- and an accepted trace is short enough
pub plain_of : (trace : Trace) → Proper trace → no_pins trace.kinds ≡ true → Plain trace
plain_of trace proper h = let few = proper.few in record { kinds = λ n l. plain_kind_lem trace.kinds h n; few = omega arith }

pub curve_demand : CurveDemand
curve_demand trace proper pins f l m =
    let s = lru_with trace.settings f in
    let c = (recency_law s zero_tally trace (record { range = lru_range trace.settings f proper.range l m; rule = refl }) (plain_of trace proper pins)).counted (length trace.pages) (omega arith) in
    omega arith

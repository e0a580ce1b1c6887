-- More memory does not look worse under LRU, and may under the other rules.
use mathlib.Core.Path.{◌≡◌, refl, ap, sym, ◌∙◌}
use mathlib.Core.Bool.{true}
use mathlib.Core.List.{List}
use Prim.Native.Nat.{ℕ, suc, ◌-◌, ◌≤◌, ◌<◌}
use native.Mathlib.Omega.{arith}
use lib.ListN.{length, get_or}
use Rattle.word.proofs.Laws.{bytes_of_lem}
use Rattle.search.specs.Search.{least_below, every_below, among}
use Rattle.settings.specs.declared.Settings.{Settings}
use Rattle.settings.specs.Settings.{in_range, set_rule, set_frames}
use Rattle.trace.specs.declared.Record.{Record}
use Rattle.trace.specs.Layout.{Trace}
use Rattle.trace.specs.Encode.{Proper}
use Rattle.trace.specs.Check.{trace_of}
use Rattle.trace.proofs.Whole.{proper}
use Rattle.worth.specs.Value.{less_fraction, greater_of, worth_of, value_of}
use Rattle.pool.specs.Pool.{fresh_pool, now_of}
use Rattle.reference.specs.Search.{find_page, lowest_unused}
use Rattle.reference.specs.Logs.{log_with, length_with, put_front, cleared}
use Rattle.reference.specs.Reference.{referred, hit_at, fetched_at}
use Rattle.victim.specs.Clock.{sweep_from, sweep_of, swept_choice, any_unpinned, clock_choice}
use Rattle.victim.specs.Watt.{next_sampler, sampler_after, draws, value_at, watt_victim, watt_choice}
use Rattle.victim.specs.Rules.{choice_of}
use Rattle.batch.specs.Batch.{batch_of, cleaned, pages_of}
use Rattle.tally.specs.declared.Tally.{Tally}
use Rattle.tally.specs.Rows.{refused_row, is_hit}
use Rattle.tally.specs.Tally.{zero_tally, counted_by}
use Rattle.effect.specs.Record.{hit_of, leaving_of, eviction_of, miss_of, reference_of, record_of}
use Rattle.replay.specs.Replay.{replay_to}
use Rattle.distance.specs.Distance.{distance_at}
use Rattle.distance.specs.Recent.{recent}
use Rattle.distance.proofs.Stack.{take_among}
use Rattle.distance.proofs.Fewer.{within_wider, fewer_misses}
use Rattle.curve.specs.Curve.{no_pins, curve_refusal, CurveInto}
use Rattle.curve.proofs.Called.{granted}
use Rattle.recency.specs.Recency.{Plain, row_at}
use Rattle.recency.specs.Curve.{lru_misses}
use Rattle.recency.proofs.Recency.{recency_law}
use Rattle.recency.proofs.Curve.{lru_range, plain_kind_lem}
use Rattle.recency.proofs.Accepted.{plain_accepted, accepted_few}
use Rattle.rename.specs.Sameness.{AreBytes}
use Rattle.worked.specs.Records.{clock, traced}
use Rattle.worked.proofs.Settled.{row_of_record}
use Rattle.demands.proofs.Curve.{curves}
use Rattle.demands.specs.Memory.{beginning_with, AllAccepted, row_with, PromisedFor, counts_with, clock_reads, watt, watt_reads, ClockRises, WattRises, MoreMemory}

-- a row of the replay is what its record does
row_is : (s : Settings) (t : Tally) (trace : Trace) (f n : ℕ) → suc n ≤ length trace.pages → row_with s t trace f n ≡ row_at (set_frames f s) t trace n
row_is s t trace f n l = row_of_record (fresh_pool (set_frames f s)) t trace (length trace.pages) n (refused_row 0) l

-- the f pages most recently used are among the g, where those are no fewer
more : (f g : ℕ) → f ≤ g → PromisedFor 0 f g
more f g l s t trace rule smaller larger pins accepted _ =
    let kinds = plain_kind_lem trace.kinds pins in
    let few = accepted_few (set_frames f s) t trace (λ n m. kinds n) smaller accepted in
    let plain : Plain trace = record { kinds = λ n m. kinds n; few = few } in
    let x = recency_law (set_frames f s) t trace (record { range = smaller; rule = rule }) plain in
    let y = recency_law (set_frames g s) t trace (record { range = larger; rule = rule }) plain in
    let fewer : (n : ℕ) → n ≤ length trace.pages → (beginning_with s t trace g n).tally.misses ≤ (beginning_with s t trace f n).tally.misses =
    λ n m. let u = x.counted n m in let v = y.counted n m in let w = fewer_misses trace.pages f g n l in omega arith in
    record {
      pages = λ n m page h. y.held n m page ∙ take_among f g page (recent trace.pages n) l (sym (x.held n m page) ∙ h);
      rows = λ n m h.
          ap is_hit (row_is s t trace g n m) ∙ y.hits n m
          ∙ within_wider f g (distance_at trace.pages n) l (sym (x.hits n m) ∙ ap is_hit (sym (row_is s t trace f n m)) ∙ h);
      beginnings = fewer;
      misses = fewer (length trace.pages) (omega arith);
    }

accepted : (trace : Trace) → Proper trace → no_pins trace.kinds ≡ true → (t : Tally) (f : ℕ) → 1 ≤ f → f ≤ 128 → AllAccepted (set_rule 0 trace.settings) t trace f
accepted trace p pins t f l m =
    let few = p.few in
    plain_accepted (set_frames f (set_rule 0 trace.settings)) t trace (λ n q. plain_kind_lem trace.kinds pins n)
    (record { range = lru_range trace.settings f p.range l m; rule = refl }) (omega arith)

-- so the misses of the replays that the curve tells of never rise
never_more : (s : List ℕ) (needed room : ℕ) → AreBytes s → curve_refusal s needed room ≡ 0 → (f g : ℕ) → 1 ≤ f → f ≤ g → g ≤ 128 → lru_misses (trace_of s) g ≤ lru_misses (trace_of s) f
never_more s needed room b e f g l m k =
    let trace = trace_of s in
    let given = granted s needed room e in
    let p = proper s (bytes_of_lem s b) given.0 in
    let at = accepted trace p given.1 zero_tally in
    (more f g m (set_rule 0 trace.settings) zero_tally trace refl (lru_range trace.settings f p.range l (omega arith)) (lru_range trace.settings g p.range (omega arith) k) given.1
    (at f l (omega arith)) (at g (omega arith) k)).misses

-- a place of the curve
place : (s list list' : List ℕ) → AreBytes s → CurveInto s list 0 list' → (i : ℕ) → i < 128 → get_or list' i 0 ≡ lru_misses (trace_of s) (suc i)
place s list list' b c i l =
    let e : i ≡ suc i - 1 = omega arith in
    ap (λ (n : ℕ). get_or list' n 0) e ∙ curves.misses s list list' b c (suc i) (omega arith) (omega arith)

clock_rises : ClockRises
unfolding replay_to record_of reference_of hit_of miss_of eviction_of leaving_of fresh_pool find_page lowest_unused least_below referred hit_at fetched_at choice_of clock_choice swept_choice sweep_of sweep_from any_unpinned batch_of cleaned pages_of counted_by
clock_rises = (refl, refl)

watt_rises : WattRises
unfolding replay_to record_of reference_of hit_of miss_of eviction_of leaving_of fresh_pool find_page lowest_unused least_below referred hit_at fetched_at log_with length_with put_front cleared now_of choice_of watt_choice watt_victim draws sampler_after next_sampler among value_at value_of worth_of greater_of less_fraction batch_of cleaned pages_of counted_by
watt_rises = (refl, refl)

-- a promise for a rule fails where with 2 frames and with 3 no record was refused, and the misses rise
broken : (rule : ℕ) (s : Settings) (records : List Record) (a b : List ℕ) → s.rule ≡ rule → in_range (set_frames 2 s) ≡ true → in_range (set_frames 3 s) ≡ true
    → no_pins (traced s records).kinds ≡ true → counts_with s records 2 ≡ a → counts_with s records 3 ≡ b → get_or a 5 0 ≡ 0 → get_or b 5 0 ≡ 0 → get_or a 1 0 < get_or b 1 0 → PromisedFor rule 2 3 → ⊥
broken rule s records a b r smaller larger pins x y none none' rises promise =
    let worse =
    (promise s zero_tally (traced s records) r smaller larger pins
    (ap (λ (l : List ℕ). get_or l 5 0) x ∙ none) (ap (λ (l : List ℕ). get_or l 5 0) y ∙ none')).misses in
    let m = ap (λ (l : List ℕ). get_or l 1 0) x in
    let n = ap (λ (l : List ℕ). get_or l 1 0) y in
    omega arith

not_clock : PromisedFor 1 2 3 → ⊥
unfolding in_range no_pins every_below
not_clock = broken 1 (clock 3 2) clock_reads _ _ refl refl refl refl clock_rises.0 clock_rises.1 refl refl (omega arith)

not_watt : PromisedFor 2 2 3 → ⊥
unfolding in_range no_pins every_below
not_watt = broken 2 watt watt_reads _ _ refl refl refl refl watt_rises.0 watt_rises.1 refl refl (omega arith)

pub more_memory : MoreMemory
more_memory = record {
  one = λ f. more f (suc f) (omega arith);
  more = λ f g l. more f g l;
  accepted = accepted;
  curve = λ s list list' b c i j l m.
      let x = place s list list' b c i (omega arith) in
      let y = place s list list' b c j m in
      let h = never_more s 128 (length list) b (sym c.answers) (suc i) (suc j) (omega arith) (omega arith) (omega arith) in
      omega arith;
  bytes = λ s out out' b c f g l m k.
      let x = curves.bytes s out out' b c f l (omega arith) in
      let y = curves.bytes s out out' b c g (omega arith) k in
      let h = never_more s 512 (length out) b (sym c.answers) f g l m k in
      omega arith;
  clock_rises = clock_rises;
  watt_rises = watt_rises;
  not_clock = not_clock;
  not_watt = not_watt;
}

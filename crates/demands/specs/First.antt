-- The first demand: "Any bytes, settings or pool state may be handed in. Every call ends with its one answer or the numbered refusal that fits. A refused
-- call changes no pool and no lent byte; a refused record inside a replay shows only in its row and the refused count. Within the reference limit a
-- missed page is refused for want of a frame exactly when every frame is pinned."
use Rattle.std.specs.Prelude.{ℕ, suc, ◌+◌, ◌≤◌, ◌<◌, ◌≡◌, true, List, [], ◌↔◌, length, None, Result}
use Rattle.refusal.specs.declared.Refusal.{Refusal}
use Rattle.refusal.specs.Numbers.{answer_of}
use Rattle.refusal.specs.Refusals.{demand, out_of_range, no_frame}
use Rattle.settings.specs.declared.Settings.{Settings}
use Rattle.settings.specs.Settings.{in_range, one_frame}
use Rattle.trace.specs.Layout.{Trace, record_in}
use Rattle.trace.specs.declared.Summary.{Summary}
use Rattle.trace.specs.Answer.{checked_by}
use Rattle.trace.specs.Check.{refusal_of, trace_of, number_of_answer, check_of, read_refusal, ReadInto, Checked}
use Rattle.scribe.specs.Write.{write_refusal, WrittenTo, convert_refusal, ConvertedTo}
use Rattle.pool.specs.declared.Pool.{Pool}
use Rattle.pool.specs.declared.Unopened.{Unopened}
use Rattle.limit.specs.Limits.{reference_limit}
use Rattle.pool.specs.Pool.{frame_at, fresh_pool, opened_by, fresh_of}
use Rattle.pool.specs.Sound.{sound_pool, pool_refusal}
use Rattle.word.specs.declared.Order.{Order}
use Rattle.image.specs.Image.{held_refusal, held_of, image_refusal, image_of, saving_refusal, SavedTo}
use Rattle.reference.specs.Search.{find_page}
use Rattle.tally.specs.declared.Row.{Row}
use Rattle.tally.specs.declared.Tally.{Tally}
use Rattle.tally.specs.Rows.{refused_by, is_refused}
use Rattle.tally.specs.Tally.{counted_by}
use Rattle.effect.specs.Record.{record_of}
use Rattle.replay.specs.declared.Ended.{Ended}
use Rattle.replay.specs.declared.Unstepped.{Unstepped}
use Rattle.replay.specs.Replay.{replay_to}
use Rattle.replay.specs.Calls.{Stepped, step_refusal, stepped_by, StepInto, counts_refusal, ended_as, counts_of, replay_refusal, ReplayInto}
use Rattle.curve.specs.Curve.{sizes, curve_refusal, CurveInto}
use Rattle.host.specs.Counts.{host_refusal, CountsInto}
use Rattle.host.specs.Curve.{curve_length, CurveBytesInto}
use Rattle.worked.specs.Rows.{row_in}
use Rattle.rename.specs.Sameness.{Stored}

-- ---- calls

-- a call, by the outcomes that its contract allows, the number that each returns, the refusal that fits (0 where none does), and what it lent
pub record Call (Outcome : Type 0) (Allowed : Outcome → Type 0) (number : Outcome → ℕ) (fitting : ℕ) (Unchanged : Outcome → Type 0) : Type 0 where
  -- "ends with its one answer": the contract allows an outcome, and no other
  pub ends : (o : Outcome) × Allowed o
  pub one : (a b : Outcome) → Allowed a → Allowed b → a ≡ b
  -- "or the numbered refusal that fits"
  pub fits : (a : Outcome) → Allowed a → number a ≡ fitting
  -- "a refused call changes no pool and no lent byte"
  pub still : (a : Outcome) → Allowed a → (number a ≡ 0 → ⊥) → Unchanged a

-- of every public call that hands back a pool or is lent memory: "any bytes, settings or pool state may be handed in"
pub record Calls : Type 0 where
  -- `trace::read`
  pub read : (s pages kinds : List ℕ)
      → Call (Checked × List ℕ × List ℕ) (λ o. ReadInto s pages kinds o.0 o.1 o.2) (λ o. number_of_answer o.0) (read_refusal s (length pages) (length kinds))
      (λ o. (o.1 ≡ pages) × (o.2 ≡ kinds))
  -- `scribe::write`
  pub write : (t : Trace) (out : List ℕ) → Call (ℕ × List ℕ) (λ o. WrittenTo t out o.0 o.1) (λ o. o.0) (write_refusal t (length out)) (λ o. o.1 ≡ out)
  -- `scribe::convert`, and `hitchyawl_convert`
  pub convert : (s out : List ℕ) → Call (ℕ × List ℕ) (λ o. ConvertedTo s out o.0 o.1) (λ o. o.0) (convert_refusal s (length out)) (λ o. o.1 ≡ out)
  -- `replay::step`
  pub step : (p : Pool) (t : Tally) (page kind : ℕ) (list : List ℕ)
      → Call (Stepped × List ℕ) (λ o. StepInto p t page kind list o.0 o.1) (λ o. o.0.refusal) (step_refusal p t kind (length list))
      (λ o. (o.0.pool ≡ p) × (o.0.tally ≡ t) × (o.1 ≡ list))
  -- `replay::replay`
  pub replay : (p : Pool) (t : Tally) (s rows written : List ℕ)
      → Call (Ended × List ℕ × List ℕ) (λ o. ReplayInto p t s rows written o.0 o.1 o.2) (λ o. o.0.refusal) (replay_refusal p t s (length rows) (length written))
      (λ o. (o.0.pool ≡ p) × (o.0.tally ≡ t) × (o.1 ≡ rows) × (o.2 ≡ written))
  -- `replay::counts`
  pub counts : (p : Pool) (t : Tally) (s : List ℕ) → Call Ended (λ e. e ≡ counts_of p t s) (λ e. e.refusal) (counts_refusal p t s) (λ e. (e.pool ≡ p) × (e.tally ≡ t))
  -- `hitchyawl_counts`
  pub transport : (s out : List ℕ) → Call (ℕ × List ℕ) (λ o. CountsInto s out o.0 o.1) (λ o. o.0) (host_refusal s (length out)) (λ o. o.1 ≡ out)
  -- `curve::misses`
  pub curve : (s list : List ℕ) → Call (ℕ × List ℕ) (λ o. CurveInto s list o.0 o.1) (λ o. o.0) (curve_refusal s sizes (length list)) (λ o. o.1 ≡ list)
  -- `hitchyawl_curve`
  pub curve_bytes : (s out : List ℕ)
      → Call (ℕ × List ℕ) (λ o. CurveBytesInto s out o.0 o.1) (λ o. o.0) (curve_refusal s curve_length (length out)) (λ o. o.1 ≡ out)
  -- `trace::check` and `hitchyawl_check` are lent nothing
  pub check : (s : List ℕ) → number_of_answer (check_of s) ≡ refusal_of s
  -- nor is `pool::fresh`; what it hands back is sound, refused or not
  pub fresh : (x : Settings) → ((fresh_of x).refusal ≡ demand (in_range x) out_of_range 0) × (sound_pool (fresh_of x).pool ≡ true)
  -- `image::read` and `image::held` are lent nothing; what `image::read` hands back is sound, and where it or `image::held` refuses it is the pool of one frame
  pub image : (s : List ℕ) → ((image_of s).refusal ≡ image_refusal s) × (sound_pool (image_of s).pool ≡ true) × ((image_refusal s ≡ 0 → ⊥) → (image_of s).pool ≡ fresh_pool one_frame)
  pub held : (s : List ℕ) → ((held_of s).refusal ≡ held_refusal s) × ((held_refusal s ≡ 0 → ⊥) → (held_of s).pool ≡ fresh_pool one_frame)
  -- `image::write`
  pub save : (p : Pool) (o : Order) (out : List ℕ) → Call (ℕ × List ℕ) (λ r. SavedTo p o out r.0 r.1) (λ r. r.0) (saving_refusal p (length out)) (λ r. r.1 ≡ out)
  -- `pool::check`: 0 exactly for a sound pool
  pub pool_check : (p : Pool) → (pool_refusal p ≡ 0) ↔ (sound_pool p ≡ true)

-- ---- answers

-- what a contract reads off an answer, and off a pool and a tally that were lent, tells every two apart: its one outcome is one answer of the call
pub record Answers : Type 0 where
  -- of a call that answers nothing but a refusal
  pub none : (a b : Result (Unit {0}) Refusal) → answer_of a ≡ answer_of b → a ≡ b
  -- `trace::check`, `trace::read`
  pub checked : (a b : Result Summary Refusal) → checked_by a ≡ checked_by b → a ≡ b
  -- `pool::fresh`, `image::held`, `image::read`
  pub opened : (a b : Result Pool Unopened) → opened_by a ≡ opened_by b → a ≡ b
  -- `replay::step`
  pub stepped : (a b : Result Row Unstepped) (p q : Pool) (t u : Tally) → stepped_by a p t ≡ stepped_by b q u → (a ≡ b) × (p ≡ q) × (t ≡ u)
  -- `replay::replay`, `replay::counts`
  pub ended : (a b : Result (Unit {0}) Refusal) (p q : Pool) (t u : Tally) → ended_as (answer_of a) p t ≡ ended_as (answer_of b) q u → (a ≡ b) × (p ≡ q) × (t ≡ u)

-- ---- records

-- the tally with one refused record more, and every other count as it was
abbrev pub one_refused : Tally → Tally
one_refused t = record { hits = t.hits; misses = t.misses; evictions = t.evictions; batches = t.batches; written = t.written; refused = t.refused + 1 }

-- "a refused record .. shows only in its row and the refused count": pool, pages written and tally before it and after it
pub record OnlyShown (p p' : Pool) (written written' : List ℕ) (t t' : Tally) : Type 0 where
  pub pool : p' ≡ p
  pub pages : written' ≡ written
  pub tally : t' ≡ one_refused t

-- "within the reference limit a missed page .. every frame is pinned", of a record that is a read, a write or a pin
pub record WantsFrame (p : Pool) (page kind : ℕ) : Type 0 where
  pub reference : kind ≤ 2
  pub within : p.k < reference_limit
  pub missed : find_page p.frames page ≡ None
  pub pinned : (i : ℕ) → i < p.settings.frames → 0 < (frame_at p.frames i).pins

-- "refused for want of a frame": by 10
abbrev pub NoFrame : Row → Type 0
NoFrame w = w.outcome ≡ refused_by no_frame

-- of one record on a pool
pub record OnPool : Type 0 where
  pub refused : (p : Pool) (t : Tally) (page kind : ℕ) → is_refused (record_of p page kind).row ≡ true
      → OnlyShown p (record_of p page kind).pool [] (record_of p page kind).written t (counted_by t (record_of p page kind).row)
  pub frame : (p : Pool) (page kind : ℕ) → sound_pool p ≡ true → NoFrame (record_of p page kind).row ↔ WantsFrame p page kind
  -- "in use and pinned": a sound pool's pinned frames are in use, since its unused ones are all zero
  pub used : (p : Pool) (i : ℕ) → sound_pool p ≡ true → i < p.settings.frames → 0 < (frame_at p.frames i).pins → (frame_at p.frames i).used ≡ true

-- of a single step that is not refused
pub record InStep (p : Pool) (t : Tally) (page kind : ℕ) (list : List ℕ) (r : Stepped) (list' : List ℕ) : Type 0 where
  pub refused : is_refused r.row ≡ true → OnlyShown p r.pool list list' t r.tally
  pub frame : NoFrame r.row ↔ WantsFrame p page kind

-- of each record i of a replay that is not refused, the pool before it being the one that the records before it left
pub record InReplay (p : Pool) (t : Tally) (trace : Trace) (rows' : List ℕ) (i : ℕ) : Type 0 where
  pub refused : is_refused (row_in rows' i) ≡ true
      → OnlyShown (replay_to p t trace i).pool (replay_to p t trace (suc i)).pool (replay_to p t trace i).written (replay_to p t trace (suc i)).written
      (replay_to p t trace i).tally (replay_to p t trace (suc i)).tally
  pub frame : NoFrame (row_in rows' i) ↔ WantsFrame (replay_to p t trace i).pool (record_in trace i).page (record_in trace i).kind

-- the demand; what the types say of a pool and of bytes is given as `Stored`
pub record FirstDemand : Type 0 where
  pub calls : Calls
  pub answers : Answers
  pub record_alone : OnPool
  pub step : (p : Pool) (t : Tally) (page kind : ℕ) (list : List ℕ) (r : Stepped) (list' : List ℕ)
      → StepInto p t page kind list r list' → r.refusal ≡ 0 → InStep p t page kind list r list'
  pub replay : (p : Pool) (t : Tally) (s : List ℕ) → Stored p s → (rows written : List ℕ) (r : Ended) (rows' written' : List ℕ)
      → ReplayInto p t s rows written r rows' written' → r.refusal ≡ 0 → (i : ℕ) → i < length (trace_of s).pages → InReplay p t (trace_of s) rows' i

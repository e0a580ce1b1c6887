-- The second demand: "Reading and writing a trace, in either byte order, follow the published layout and undo each other. Each replayed record gives the
-- hit, frame, victim, write batch, refusal, counts and pool afterwards that the stated rules give, page values compared as exact fractions."
use Rattle.std.specs.Prelude.{ℕ, suc, ◌*◌, ◌≤◌, ◌<◌, ◌≡◌, true, List, ◌++◌, ◌↔◌, length, get_or, take}
use Rattle.std.proofs.lemmas.List.Edits.{sets}
use Rattle.worth.specs.declared.Fraction.{Fraction}
use Rattle.worth.specs.Value.{less_fraction}
use Rattle.trace.specs.Layout.{Trace, trace_from, file_length, record_in}
use Rattle.trace.specs.Encode.{encode, turned}
use Rattle.trace.specs.declared.Summary.{Summary}
use Rattle.trace.specs.Check.Checked.{Accepted}
use Rattle.trace.specs.Check.{trace_of, summary_of, check_of, ReadInto, Checked}
use Rattle.scribe.specs.Write.{WrittenTo, ConvertedTo}
use Rattle.word.specs.declared.Order.{Order}
use Rattle.pool.specs.declared.Pool.{Pool}
use Rattle.pool.specs.Pool.{opened}
use Rattle.pool.specs.Sound.{sound_pool}
use Rattle.image.specs.Layout.{image_length, used_in, encode_pool}
use Rattle.image.specs.Image.{order_of, image_of, SavedTo, Typed}
use Rattle.tally.specs.declared.Tally.{Tally}
use Rattle.tally.specs.Tally.{counted_by, counted_rows}
use Rattle.effect.specs.Record.{Did, record_of}
use Rattle.replay.specs.declared.Ended.{Ended}
use Rattle.replay.specs.Replay.{started, replay_to, replay_of}
use Rattle.replay.specs.Calls.{Stepped, StepInto, counts_of, ReplayInto}
use Rattle.worked.specs.Rows.{row_in}
use Rattle.rename.specs.Sameness.{AreBytes, Stored}

-- ---- traces

-- what the types say of a seed and of pages: numbers of 4 bytes
abbrev pub FourBytes : Trace → Type 0
FourBytes t = (t.settings.seed < 4294967296) × ((i : ℕ) → get_or t.pages i 0 < 4294967296)

-- the trace that a reader gave: what it told, and the first places of its lists
abbrev pub given : Summary → List ℕ → List ℕ → Trace
given h pages kinds = trace_from h.settings h.order (take h.count pages) (take h.count kinds)

pub record Traces : Type 0 where
  -- "writing .. follows the published layout"
  pub written : (t : Trace) (out out' : List ℕ) → WrittenTo t out 0 out' → out' ≡ sets out 0 (encode t)
  -- "reading .. follows the published layout": what is accepted is the encoding of what is read
  pub read : (s pages kinds : List ℕ) (h : Summary) (pages' kinds' : List ℕ) → AreBytes s → ReadInto s pages kinds (Accepted h) pages' kinds' → encode (given h pages' kinds') ≡ s
  -- "undo each other": bytes that a writer stored are accepted by a reader that is lent n places in each list, with what the writer was given
  pub read_back : (t : Trace) (out out' : List ℕ) → FourBytes t → WrittenTo t out 0 out'
      → (pages kinds : List ℕ) → length t.pages ≤ length pages → length t.kinds ≤ length kinds
      → (answer : Checked) (pages' kinds' : List ℕ) → ReadInto (take (file_length (length t.pages)) out') pages kinds answer pages' kinds'
      → (answer ≡ Accepted (summary_of t)) × (pages' ≡ sets pages 0 t.pages) × (kinds' ≡ sets kinds 0 t.kinds)
  -- and what a reader gave is accepted by a writer that is lent the file length, which stores the bytes that were read
  pub write_back : (s pages kinds : List ℕ) (h : Summary) (pages' kinds' : List ℕ) → AreBytes s → ReadInto s pages kinds (Accepted h) pages' kinds'
      → (out : List ℕ) → length s ≤ length out → (r : ℕ) (out' : List ℕ) → WrittenTo (given h pages' kinds') out r out' → (r ≡ 0) × (out' ≡ sets out 0 s)
  -- "converting writes the same trace in the other order"
  pub converted : (s out out' : List ℕ) → AreBytes s → ConvertedTo s out 0 out'
      → (check_of (take (length s) out') ≡ Accepted (summary_of (turned (trace_of s)))) × (trace_of (take (length s) out') ≡ turned (trace_of s))
  -- "converting twice gives the first bytes again", the second time too with the file length lent
  pub convert_back : (s mid mid' : List ℕ) → AreBytes s → ConvertedTo s mid 0 mid'
      → (out : List ℕ) → length s ≤ length out → (r : ℕ) (out' : List ℕ) → ConvertedTo (take (length s) mid') out r out' → (r ≡ 0) × (out' ≡ sets out 0 s)

-- ---- images

pub record Images : Type 0 where
  -- writing follows the published layout
  pub written : (p : Pool) (o : Order) (out out' : List ℕ) → SavedTo p o out 0 out' → out' ≡ sets out 0 (encode_pool o p)
  -- reading follows it: what is accepted is the encoding of what is read, a sound pool
  pub read : (s : List ℕ) → AreBytes s → (image_of s).refusal ≡ 0 → (encode_pool (order_of s) (image_of s).pool ≡ s) × (sound_pool (image_of s).pool ≡ true)
  -- "reading and writing undo each other": what a writer stored is read as the pool that it was given
  pub read_back : (p : Pool) (o : Order) (out out' : List ℕ) → Typed p → SavedTo p o out 0 out' → image_of (take (image_length (used_in p)) out') ≡ opened 0 p
  -- and what a reader gave is stored by a writer that is lent the file length as the bytes that were read
  pub write_back : (s : List ℕ) → AreBytes s → (image_of s).refusal ≡ 0
      → (out : List ℕ) → length s ≤ length out → (r : ℕ) (out' : List ℕ) → SavedTo (image_of s).pool (order_of s) out r out' → (r ≡ 0) × (out' ≡ sets out 0 s)
  -- "one encoding per sound pool and order"
  pub one : (s₁ s₂ : List ℕ) → AreBytes s₁ → AreBytes s₂ → (image_of s₁).refusal ≡ 0 → (image_of s₂).refusal ≡ 0 → order_of s₁ ≡ order_of s₂ → (image_of s₁).pool ≡ (image_of s₂).pool → s₁ ≡ s₂

-- ---- records

-- a replay that is not refused, from pool p, of a trace: `replay_to p t trace i` is what its first i records came to
module _ (p : Pool) (t : Tally) (trace : Trace) where
  -- what the stated rules give for record i on the pool that the records before it left: its row, its write batch, the pool afterwards
  abbrev pub done_by : ℕ → Did
  done_by i = record_of (replay_to p t trace i).pool (record_in trace i).page (record_in trace i).kind

  -- each record i
  pub record EachRecord (rows' : List ℕ) (i : ℕ) : Type 0 where
    -- "the hit, frame, victim, .. refusal": its row
    pub row : row_in rows' i ≡ (done_by i).row
    -- "write batch": its pages come after those written before it
    pub pages : (replay_to p t trace (suc i)).written ≡ (replay_to p t trace i).written ++ (done_by i).written
    -- "counts"
    pub tally : (replay_to p t trace (suc i)).tally ≡ counted_by (replay_to p t trace i).tally (done_by i).row
    -- "and pool afterwards"
    pub pool : (replay_to p t trace (suc i)).pool ≡ (done_by i).pool

  -- the whole: from the pool and the tally given, each record in turn, to the pool, the counts and the written pages that are handed back
  pub record AllRecords (r : Ended) (rows' written' : List ℕ) : Type 0 where
    pub starts : replay_to p t trace 0 ≡ started p t
    pub each : (i : ℕ) → i < length trace.pages → EachRecord rows' i
    pub pages : take (length (replay_of p t trace).written) written' ≡ (replay_of p t trace).written
    pub pool : r.pool ≡ (replay_of p t trace).pool
    pub tally : r.tally ≡ (replay_of p t trace).tally
    -- "each count is the number of such outcomes or written pages"
    pub counted : r.tally ≡ counted_rows t (replay_of p t trace).rows

-- ---- the demand

pub record SecondDemand : Type 0 where
  pub traces : Traces
  pub images : Images
  pub replay : (p : Pool) (t : Tally) (s : List ℕ) → Stored p s → (rows written : List ℕ) (r : Ended) (rows' written' : List ℕ)
      → ReplayInto p t s rows written r rows' written' → r.refusal ≡ 0 → AllRecords p t (trace_of s) r rows' written'
  -- replay to counts comes to the same pool and counts
  pub counts : (p : Pool) (t : Tally) (s rows written : List ℕ) (r : Ended) (rows' written' : List ℕ)
      → ReplayInto p t s rows written r rows' written' → r.refusal ≡ 0 → (e : Ended) → e ≡ counts_of p t s → e ≡ r
  -- a single step works as a record of a replay
  pub step : (p : Pool) (t : Tally) (page kind : ℕ) (list : List ℕ) (r : Stepped) (list' : List ℕ) → StepInto p t page kind list r list' → r.refusal ≡ 0
      → (r.row ≡ (record_of p page kind).row) × (list' ≡ sets list 0 (record_of p page kind).written) × (r.pool ≡ (record_of p page kind).pool) × (r.tally ≡ counted_by t (record_of p page kind).row)
  -- "page values compared as exact fractions": by cross products
  pub values : (a b : Fraction) → (less_fraction a b ≡ true) ↔ (a.num * b.den < b.num * a.den)

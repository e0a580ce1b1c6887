-- The second demand holds.
use mathlib.Core.Path.{◌≡◌, refl, ap, sym, ◌∙◌}
use mathlib.Core.Bool.{true}
use mathlib.Core.List.{List}
use mathlib.Core.Logic.{◌↔◌}
use Prim.Native.Nat.{ℕ, ◌*◌, ◌≤◌, ◌<◌}
use native.Mathlib.Omega.{arith}
use lib.ListN.{length, take, length-take}
use lib.Seq.{sets}
use borrow.Author.Tests.{ltb-true, lt-ltb}
use Rattle.word.proofs.Laws.{bytes_of_lem, sets_front}
use Rattle.worth.specs.declared.Fraction.{Fraction}
use Rattle.worth.specs.Value.{less_fraction}
use Rattle.trace.specs.Encode.{turned}
use Rattle.trace.specs.declared.Summary.{Summary}
use Rattle.trace.specs.Check.Checked.{Accepted}
use Rattle.trace.specs.Check.{refusal_of, trace_of, checked, summary_of, check_of, read_refusal, ReadInto}
use Rattle.trace.proofs.Laws.{accepts}
use Rattle.trace.proofs.Whole.{proper, length_trace, decode_whole}
use Rattle.trace.proofs.Reading.{read_grants, writes_again}
use Rattle.scribe.specs.Write.{WrittenTo, ConvertedTo}
use Rattle.scribe.proofs.Laws.{grants}
use Rattle.scribe.proofs.Writing.{reads_back, write_read, read_write}
use Rattle.scribe.proofs.Converting.{converts_back, convert_convert}
use Rattle.pool.specs.declared.Pool.{Pool}
use Rattle.pool.proofs.Sizes.{Sized}
use Rattle.tally.specs.declared.Tally.{Tally}
use Rattle.tally.specs.Tally.{counted_by}
use Rattle.effect.specs.Record.{record_of}
use Rattle.replay.specs.declared.Ended.{Ended}
use Rattle.replay.specs.Replay.{Played}
use Rattle.replay.specs.Calls.{Stepped, step_refusal, stepped_of, StepInto, ReplayInto}
use Rattle.replay.proofs.Laws.{replay_none, replay_suc}
use Rattle.worked.proofs.Settled.{ran, each_record, each_page, counts_agree, tally_counts}
use Rattle.image.proofs.Undo.{save_grants, save_read, read_encodes, read_sound, read_save, one_image}
use Rattle.rename.specs.Sameness.{AreBytes, Stored}
use Rattle.demands.specs.Second.{given, Traces, Images, AllRecords, SecondDemand}
use Rattle.demands.proofs.First.{step_fits}

-- ---- traces

module _ (s pages kinds : List ℕ) (h : Summary) (pages' kinds' : List ℕ) (bytes : AreBytes s) (x : ReadInto s pages kinds (Accepted h) pages' kinds') where
  -- the bytes are not refused, and the trace that was read is theirs
  was_read : (refusal_of s ≡ 0) × (given h pages' kinds' ≡ trace_of s)
  was_read =
      let t = trace_of s in
      let a = accepts (read_refusal s (length pages) (length kinds)) t h (sym x.answers) in
      let g = read_grants s (length pages) (length kinds) a.0 in
      let same : length t.kinds ≡ length t.pages = sym (proper s (bytes_of_lem s bytes) g.0).same in
      let p : take (length t.pages) pages' ≡ t.pages = rw (x.pages_hold, a.0) (sets_front pages t.pages (length t.pages) refl g.1) in
      let k : take (length t.pages) kinds' ≡ t.kinds = rw (x.kinds_hold, a.0) (sets_front kinds t.kinds (length t.pages) same (rw same at g.2)) in
      (g.0, rw (a.1, p, k))

  written_again : (out : List ℕ) → length s ≤ length out → (r : ℕ) (out' : List ℕ) → WrittenTo (given h pages' kinds') out r out' → (r ≡ 0) × (out' ≡ sets out 0 s)
  written_again out fits r out' w =
      let q = was_read in
      let bs = bytes_of_lem s bytes in
      let long = length_trace s bs q.0 in
      let zero : r ≡ 0 = w.answers ∙ rw q.1 (grants (trace_of s) (length out) (proper s bs q.0) (omega arith)) in
      (zero, read_write s h pages' kinds' out r out' (writes_again s pages kinds (Accepted h) pages' kinds' bs x) zero w)

was_converted : (s out out' : List ℕ) → AreBytes s → ConvertedTo s out 0 out'
    → (check_of (take (length s) out') ≡ Accepted (summary_of (turned (trace_of s)))) × (trace_of (take (length s) out') ≡ turned (trace_of s))
unfolding check_of
was_converted s out out' bytes x =
    let d = (converts_back s out 0 out' (bytes_of_lem s bytes) x refl).0 in
    (ap checked d, (decode_whole (take (length s) out') (turned (trace_of s)) d).1)

traces : Traces
traces = record {
  written = λ t out out' x. x.bytes_hold ∙ rw (← x.answers);
  read = λ s pages kinds h pages' kinds' bytes x. writes_again s pages kinds (Accepted h) pages' kinds' (bytes_of_lem s bytes) x h refl;
  read_back = λ t out out' four x pages kinds lp lk answer pages' kinds' y.
      write_read t 0 out' pages kinds answer pages' kinds' refl (reads_back t out 0 out' four.0 four.1 x) lp lk y;
  write_back = written_again;
  converted = was_converted;
  convert_back = λ s mid mid' bytes x out fits r out' y.
      convert_convert s 0 mid' out r out' refl (converts_back s mid 0 mid' (bytes_of_lem s bytes) x) (let n = length-take (length s) mid' in omega arith) y;
}

-- ---- images

images : Images
images = record {
  written = λ p o out out' x. (save_grants p o out out' x).2;
  read = λ s bytes z. (read_encodes s (bytes_of_lem s bytes) z, read_sound s (bytes_of_lem s bytes) z);
  read_back = λ p o out out' ty x. save_read p o out out' ty x;
  write_back = λ s bytes z. read_save s (bytes_of_lem s bytes) z;
  one = λ s₁ s₂ b₁ b₂. one_image s₁ s₂ (bytes_of_lem s₁ b₁) (bytes_of_lem s₂ b₂);
}

-- ---- records

module _ (p : Pool) (t : Tally) (s : List ℕ) (stored : Stored p s) (rows written : List ℕ) (r : Ended) (rows' written' : List ℕ)
    (x : ReplayInto p t s rows written r rows' written') (z : r.refusal ≡ 0) where
  replayed : AllRecords p t (trace_of s) r rows' written'
  replayed =
      let sized : Sized p = record { frames = stored.frames; access = stored.access; write = stored.write } in
      let done = ran p t s rows written r rows' written' x z in record {
        starts = replay_none p t (trace_of s);
        each = λ i l. let e = replay_suc p t (trace_of s) i in record {
          row = each_record p t s rows written r rows' written' x z i l;
          pages = ap (λ (q : Played). q.written) e;
          tally = ap (λ (q : Played). q.tally) e;
          pool = ap (λ (q : Played). q.pool) e;
        };
        pages = each_page p t s rows written r rows' written' x z sized;
        pool = ap (λ (q : Ended). q.pool) done.answers;
        tally = ap (λ (q : Ended). q.tally) done.answers;
        counted = tally_counts p t s rows written r rows' written' x z;
      }

stepped : (p : Pool) (t : Tally) (page kind : ℕ) (list : List ℕ) (r : Stepped) (list' : List ℕ) → StepInto p t page kind list r list' → r.refusal ≡ 0
    → (r.row ≡ (record_of p page kind).row) × (list' ≡ sets list 0 (record_of p page kind).written) × (r.pool ≡ (record_of p page kind).pool) × (r.tally ≡ counted_by t (record_of p page kind).row)
stepped p t page kind list r list' x z =
    let none : step_refusal p t kind (length list) ≡ 0 = sym (step_fits p t page kind list (r, list') x) ∙ z in
    let e : r ≡ stepped_of 0 p t (record_of p page kind) = x.answers ∙ rw none in
    (ap (λ (q : Stepped). q.row) e, x.list_holds ∙ rw none, ap (λ (q : Stepped). q.pool) e, ap (λ (q : Stepped). q.tally) e)

exact : (a b : Fraction) → (less_fraction a b ≡ true) ↔ (a.num * b.den < b.num * a.den)
unfolding less_fraction
exact a b = (ltb-true (a.num * b.den) (b.num * a.den), lt-ltb (a.num * b.den) (b.num * a.den))

-- the theorem
pub second_demand : SecondDemand
second_demand = record { traces = traces; images = images; replay = replayed; counts = counts_agree; step = stepped; values = exact }

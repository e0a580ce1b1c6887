use Rattle.std.proofs.Common.{arith}
use lib.ListN.{length}
use borrow.Author.Tests.{lt-leb, le-leb}
use Rattle.word.proofs.Laws.{Bytes, bytes_of_lem}
use Rattle.trace.specs.Layout.{header_length}
use Rattle.trace.specs.Check.{check_of, decode, refusal_of, trace_of}
use Rattle.trace.proofs.Promise.{with_promise}
use Rattle.trace.proofs.check.Goals as goal

pub returns-then-bytes-lt-HEADER_LENGTH-clause-value : goal.returns-then-bytes-lt-HEADER_LENGTH-clause-value
unfolding check_of decode refusal_of
returns-then-bytes-lt-HEADER_LENGTH-clause-value c =
    rw (lt-leb header_length (length c.args.bytes.now) c.if-bytes-lt-HEADER_LENGTH.true)

pub returns-in-Some-clause-value : goal.returns-in-Some-clause-value
unfolding check_of decode refusal_of trace_of
returns-in-Some-clause-value c =
    rw (le-leb header_length (length c.args.bytes.now) c.if-bytes-lt-HEADER_LENGTH.false, ← c.in-Some.ensures) c.summary_in.ensures

pub returns-in-Some-clause-promises : goal.returns-in-Some-clause-promises
returns-in-Some-clause-promises c =
    let s = c.args.bytes.now in
    let bs : Bytes s = bytes_of_lem s (λ i. let f = c.type_inv.bytes i in omega arith) in
    (with_promise s _ bs (returns-in-Some-clause-value c)).1

pub returns-in-None-clause-value : goal.returns-in-None-clause-value
unfolding check_of decode refusal_of trace_of
returns-in-None-clause-value c =
    rw (le-leb header_length (length c.args.bytes.now) c.if-bytes-lt-HEADER_LENGTH.false, ← c.in-None.ensures)

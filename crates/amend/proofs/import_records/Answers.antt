use Prim.Native.Nat.{ℕ}
use lib.ListN.{replicate, length-replicate}
use Rattle.trace.specs.Layout.{record_limit}
use Rattle.amend.proofs.Laws.{records_written}
use native.Mathlib.Omega.{arith}
use Rattle.text.specs.Text.{lines_in}
use Rattle.text.proofs.Filling.{numbers_many}
use Rattle.amend.proofs.import_records.Goals as goal

pub fill-requires : goal.fill-requires
fill-requires c =
    let many = numbers_many (lines_in c.args.text.now) in
    let e = c.requires.0 in
    let few = c.requires.1 in
    (omega arith, omega arith)

pub returns-clause-written_to : goal.returns-clause-written_to
returns-clause-written_to c =
    let a = c.args in
    let long = length-replicate {A = ℕ} record_limit 0 in
    let few = c.requires.1 in
    (records_written a.text.now a.n a.settings a.order (replicate record_limit 0) (replicate record_limit 0) _ _ a.out.now _ _ c.requires.0 (omega arith) (omega arith)
    c.fill.ensures.pages_after c.fill.ensures.kinds_after (c.write_first.ensures.written_to, c.write_first.ensures.reads_back)).0

pub returns-clause-reads_back : goal.returns-clause-reads_back
returns-clause-reads_back c =
    let a = c.args in
    let long = length-replicate {A = ℕ} record_limit 0 in
    let few = c.requires.1 in
    (records_written a.text.now a.n a.settings a.order (replicate record_limit 0) (replicate record_limit 0) _ _ a.out.now _ _ c.requires.0 (omega arith) (omega arith)
    c.fill.ensures.pages_after c.fill.ensures.kinds_after (c.write_first.ensures.written_to, c.write_first.ensures.reads_back)).1

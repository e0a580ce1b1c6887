use lib.ListN.{length-append}
use Rattle.word.proofs.Laws.{sets_append, length_bytes}
use Rattle.trace.specs.Encode.{record_bytes}
use Rattle.fields.proofs.put_record.Goals as goal

pub returns : goal.returns
unfolding record_bytes
returns c =
    let c3 = c in
    let c2 = c3 in
    let c1 = c2 in
    rw (c3.put-3.ensures, c2.put-2.ensures, c1.put.ensures)
    (simp (sets_append, length-append, length_bytes))

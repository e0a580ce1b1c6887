use Rattle.fields.proofs.Laws.{header_stores}
use Rattle.fields.proofs.put_header.Goals as goal

pub returns : goal.returns
returns c =
    let c3 = c in
    let c2 = c3 in
    let c1 = c2 in
    let a = c1.args in
    header_stores a.order a.settings a.n a.writes a.out.now _ _ _ c1.put_counts.ensures c2.put.ensures c3.put-2.ensures

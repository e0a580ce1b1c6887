use mathlib.Core.Path.{refl}
use Rattle.trace.specs.Layout.{trace_from}
use Rattle.scribe.proofs.Laws.{encode_stores}
use Rattle.scribe.proofs.put_trace.Goals as goal

pub returns : goal.returns
returns c =
    let a = c.args in
    encode_stores (trace_from a.settings a.order a.pages.now a.kinds.now) _ c.survey_kinds-found.result.writes a.out.now _ _ refl c.survey_kinds-found.ensures.1 c.put_header.ensures c.put_records.ensures

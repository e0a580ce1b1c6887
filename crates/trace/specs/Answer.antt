-- What the code answers, as an answer of the checker.
use Rattle.std.specs.Prelude.{Result, Ok, Err}
use Rattle.refusal.specs.declared.Refusal.{Refusal}
use Rattle.refusal.specs.Numbers.{number_of}
use Rattle.trace.specs.declared.Summary.{Summary}
use Rattle.trace.specs.declared.accepted.Trace.{Trace}
use Rattle.trace.specs.Check.{Checked}
use Rattle.trace.specs.Check.Checked.{Refused, Accepted}

-- accepted, or refused by the refusal's number
abbrev pub checked_by : Result Summary Refusal → Checked
checked_by (Ok summary) = Accepted summary
checked_by (Err refusal) = Refused (number_of refusal)

-- the same of an answer that holds the bytes too
abbrev pub told_by : Result Trace Refusal → Checked
told_by (Ok trace) = Accepted trace.summary
told_by (Err refusal) = Refused (number_of refusal)

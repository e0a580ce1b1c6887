use mathlib.Core.Path.{◌≡◌}
use Prim.Native.Nat.{◌+◌, ◌≤◌}
use lib.ListN.{length}
use Rattle.refusal.specs.Refusals.{or_else}
use Rattle.text.specs.Text.{lines_in, line_numbered, first_bad, pages_in}
use Rattle.text.specs.ForCode.{number_in}
use Rattle.text.proofs.survey_of.Given as goal

abbrev pub invariant-loop-bytes : goal.invariant-loop-bytes
invariant-loop-bytes l = record {
  read : l.lines + length (lines_in l.bytes-iterator.text.now) ≡ length (lines_in l.text);
  few : l.records ≤ l.lines;
  numbered : l.bad ≡ line_numbered (number_in l.bad);
  found : first_bad 0 (lines_in l.text) ≡ or_else (number_in l.bad) (first_bad l.lines (lines_in l.bytes-iterator.text.now));
  counted : length (pages_in (lines_in l.text)) ≡ l.records + length (pages_in (lines_in l.bytes-iterator.text.now));
}

use mathlib.Core.Path.{◌≡◌}
use Prim.Native.Nat.{◌≤◌, min}
use lib.ListN.{take}
use Rattle.numeral.specs.Numeral.{number_limit, all_digits, value_after}
use Rattle.numeral.proofs.read.Given as goal

abbrev pub invariant-loop-c : goal.invariant-loop-c
invariant-loop-c l = record {
  few : l.n ≤ number_limit;
  digits : l.digits ≡ all_digits (take l.c-index l.text);
  number : l.n ≡ min (value_after 0 (take l.c-index l.text)) number_limit;
}

-- An order's name.
use Rattle.std.specs.Prelude.{ℕ, List, codes}
use Rattle.word.specs.declared.Order.{Order}
use Rattle.word.specs.declared.Order.TheVariants.{High, Low}

-- as the programs take and print it
abbrev pub order_name : Order → List ℕ
order_name High = codes "high"
order_name Low = codes "low"

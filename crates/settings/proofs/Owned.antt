-- What owning settings tells of their numbers (`c.good.0` where they are the first parameter).
use Prim.Native.Nat.{◌<◌}
use mathlib.Core.List.{List}
use native.Mathlib.Omega.{arith}
use borrow.Author.Rules.{rules}
use mir.Val.{Val, Fits}
use mir.Syntax.{w32}
use denote.Laws.{Is}
use denote.Struct.Declared.{row}
use Rattle.settings.specs.declared.Settings.{Settings}
use Rattle.settings.specs.contracts.Settings.{the_type}

module _ (t : Settings) (vs : List Val) (good : Is (row the_type) t vs) where
  pub seed_fits : t.seed < 4294967296
  seed_fits = let f : Fits w32 t.seed = search rules in omega arith

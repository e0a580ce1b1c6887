use native.Mathlib.Nat.{add_assoc}
use Rattle.settings.specs.Settings.{settings_at}
use Rattle.settings.proofs.read.Goals as goal

pub returns : goal.returns
unfolding settings_at
returns c =
    rw (
      c.get-8.ensures,
      c.get-7.ensures,
      c.get-6.ensures,
      c.get-5.ensures,
      c.get-4.ensures,
      c.get-3.ensures,
      c.get-2.ensures,
      c.get.ensures,
    )
    (simp add_assoc)

-- The header is stored in three runs.
use mathlib.Core.Path.{◌≡◌}
use mathlib.Core.List.{List, ◌++◌}
use Prim.Native.Nat.{ℕ}
use lib.ListN.{length-append}
use lib.Seq.{sets}
use Rattle.word.specs.Number.{bytes_of}
use Rattle.word.specs.declared.Order.{Order}
use Rattle.word.proofs.Laws.{sets_append}
use Rattle.settings.specs.Settings.{settings_bytes}
use Rattle.settings.specs.declared.Settings.{Settings}
use Rattle.settings.proofs.Places.{length_settings}
use Rattle.trace.specs.Encode.{front_bytes, header_bytes}
use Rattle.trace.proofs.Sizes.{length_front}

pub header_stores : (o : Order) (t : Settings) (n w : ℕ) (out a b c : List ℕ) → a ≡ sets out 0 (front_bytes o n w) → b ≡ sets a 24 (settings_bytes o t)
    → c ≡ sets b 44 (bytes_of o 4 0) → c ≡ sets out 0 (header_bytes o t n w)
unfolding header_bytes
header_stores o t n w out a b c x y z =
    let front = front_bytes o n w in
    let set = settings_bytes o t in
    rw (
      z,
      y,
      x,
      sets_append (front ++ set) (bytes_of o 4 0) out 0,
      sets_append front set out 0,
      length-append front set,
      length_front o n w,
      length_settings o t,
    )

use mathlib.Core.Path.{◌≡◌}
use lib.ListN.{length}
use lib.Seq.{sets}
use Rattle.entry.specs.Run.{run_of}
use Rattle.image.proofs.Laws.{frame_run, access_run, write_run}
use Rattle.image.proofs.pool_to.Given as goal

abbrev pub invariant-loop-i : goal.invariant-loop-i
invariant-loop-i l = (length l.frames ≡ 128) × (length l.access ≡ 1024) × (length l.write ≡ 512)
    × (l.frames ≡ sets l.initial.frames 0 (run_of (frame_run l.order l.bytes) l.i)) × (l.access ≡ sets l.initial.access 0 (run_of (access_run l.order l.bytes) l.i))
    × (l.write ≡ sets l.initial.write 0 (run_of (write_run l.order l.bytes) l.i))

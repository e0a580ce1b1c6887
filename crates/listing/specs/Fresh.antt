-- The pool that a listing starts from.
use Rattle.settings.specs.Settings.{one_frame}
use Rattle.trace.specs.Check.{Checked}
use Rattle.trace.specs.Check.Checked.{Accepted, Refused}
use Rattle.pool.specs.declared.Pool.{Pool}
use Rattle.pool.specs.Pool.{fresh_pool, fresh_of}

-- as `pool::fresh` gives it by the settings of an accepted trace; for a refused one the pool of one frame
unfoldable pub fresh_for : Checked → Pool
fresh_for (Accepted h) = (fresh_of h.settings).pool
fresh_for (Refused r) = fresh_pool one_frame

-- Laws that the pool's functions cite.
use mathlib.Core.Path.{◌≡◌, ap, ◌∙◌}
use mathlib.Core.Bool.{Bool, true, false, ◌&&◌}
use mathlib.Core.List.{List}
use Prim.Native.Nat.{ℕ, ◌+◌, ◌-◌, ◌≤◌, ◌<◌}
use native.Mathlib.Omega.{arith}
use native.Mathlib.Nat.{zero-add}
use lib.ListN.{length, get_or, take, drop, length-drop}
use lib.Seq.{length-take-le, get_or-take, get_or-drop}
use lib.Dec.{leb}
use Rattle.std.specs.Prelude.{Result, Ok, Err}
use Rattle.search.specs.Search.{every_below}
use Rattle.refusal.specs.Refusals.{out_of_range}
use Rattle.refusal.proofs.Laws.{number_some, number_injective}
use Rattle.settings.specs.declared.Settings.{Settings}
use Rattle.settings.specs.Settings.{in_range, one_frame}
use Rattle.pool.specs.declared.Frame.{Frame}
use Rattle.pool.specs.declared.Pool.{Pool}
use Rattle.pool.specs.declared.Unopened.{Unopened}
use Rattle.pool.specs.Pool.{empty_frame, frame_at, fresh_pool, Opened, opened, opened_by, fresh_of}
use Rattle.pool.specs.Sound.{place_sound, place_at, sound_log}
use Rattle.pool.specs.ForCode.{pair_sound, pair_at, pairs_sound}
use Rattle.pool.proofs.Listed.{every_same}

-- the two ways through a fresh pool
pub fresh_whole : (s : Settings) (p : Pool) → in_range s ≡ true → p ≡ fresh_pool s → opened 0 p ≡ fresh_of s
unfolding fresh_of
fresh_whole s p e d = rw (e, d)

pub fresh_small : (s : Settings) → in_range s ≡ false → opened out_of_range (fresh_pool one_frame) ≡ fresh_of s
unfolding fresh_of
fresh_small s e = rw e

-- two answers that are read alike are the same
pub opened_one : (a b : Result Pool Unopened) → opened_by a ≡ opened_by b → a ≡ b
opened_one (Ok p) (Ok q) e = ap (λ (o : Opened). Ok o.pool) e
opened_one (Ok p) (Err v) e = let n = number_some v.refusal in let z = ap (λ (o : Opened). o.refusal) e in absurd (omega arith)
opened_one (Err u) (Ok q) e = let n = number_some u.refusal in let z = ap (λ (o : Opened). o.refusal) e in absurd (omega arith)
opened_one (Err u) (Err v) e =
    let n = number_injective u.refusal v.refusal (ap (λ (o : Opened). o.refusal) e) in
    λ i. Err (record { refusal = n i; pool = (e i).pool })

-- a part of an array, place for place
part_at : (a : List ℕ) (at room j : ℕ) → j < room → get_or (take room (drop at a)) j 0 ≡ get_or a (at + j) 0
part_at a at room j l = get_or-take room (drop at a) j 0 l ∙ get_or-drop at a j 0

part_length : {X : Type 0} (a : List X) (at room : ℕ) → at + room ≤ length a → length (take room (drop at a)) ≡ room
part_length a at room h = length-take-le room (drop at a) (rw (length-drop at a) (omega arith))

-- the log in a part of an array is the log that stands there in the whole
pub part_log : (a s : List ℕ) (at room n epoch : ℕ) → s ≡ take room (drop at a) → at + room ≤ length a → sound_log s 0 (length s) n epoch ≡ sound_log a at room n epoch
unfolding sound_log
part_log a s at room n epoch e h =
    rw (e, part_length a at room h)
    (ap (λ (b : Bool). leb n room && b)
    (every_same (place_at (take room (drop at a)) 0 n epoch) (place_at a at n epoch) room
    (λ j l. rw (zero-add (j - 1), zero-add j, part_at a at room (j - 1) (omega arith), part_at a at room j l))))

-- the frames before one, likewise
pub earlier_pairs : (p : Pool) (i : ℕ) (e : List Frame) → e ≡ take i p.frames → i ≤ length p.frames
    → every_below (λ j. pair_sound (frame_at e j) (frame_at p.frames i)) (length e) ≡ pairs_sound p i
unfolding pairs_sound
earlier_pairs p i e same h =
    rw (same, length-take-le i p.frames h)
    (every_same (λ j. pair_sound (frame_at (take i p.frames) j) (frame_at p.frames i)) (pair_at p i) i
    (λ j l. ap (λ (fr : Frame). pair_sound fr (frame_at p.frames i)) (get_or-take i p.frames j empty_frame l)))

-- a log of more entries than places, and one that is no longer than its places
pub log_long : (a : List ℕ) (at room n epoch : ℕ) → leb n room ≡ false → leb n room ≡ sound_log a at room n epoch
unfolding sound_log
log_long a at room n epoch e = rw e

-- place j of a log that begins an array
abbrev pub place_in : List ℕ → ℕ → ℕ → ℕ → Bool
place_in a n epoch j = place_sound j n epoch (get_or a (j - 1) 0) (get_or a j 0)

pub log_short : (a : List ℕ) (n epoch : ℕ) (placed : Bool) → leb n (length a) ≡ true → placed ≡ every_below (place_in a n epoch) (length a) → placed ≡ sound_log a 0 (length a) n epoch
unfolding sound_log
log_short a n epoch placed e h =
    rw e (h ∙ every_same (place_in a n epoch) (place_at a 0 n epoch) (length a) (λ j _. rw (zero-add (j - 1), zero-add j)))

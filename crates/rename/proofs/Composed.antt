-- Renaming by ρ and then by σ is renaming once by both.
use mathlib.Core.Path.{◌≡◌, refl, ap, subst, ◌∙◌}
use mathlib.Core.Bool.{Bool, true, false}
use mathlib.Core.List.{List, map, map-map, map_congr_left}
use Prim.Native.Nat.{ℕ}
use Rattle.search.proofs.Among.{among_map}
use Rattle.word.specs.declared.Order.{Order}
use Rattle.trace.specs.Layout.{Trace, trace_from}
use Rattle.trace.specs.Encode.{encode}
use Rattle.trace.specs.Check.{trace_of}
use Rattle.pool.specs.declared.Pool.{Pool}
use Rattle.pool.specs.Pool.{with_page, with_frames}
use Rattle.tally.specs.declared.Row.{Row}
use Rattle.tally.specs.Rows.{row, is_eviction}
use Rattle.replay.specs.Replay.{Played}
use Rattle.rename.specs.Renamed.{renamed_pages, held_page, renamed_frame, renamed_pool, renamed_trace, renamed_bytes, renamed_row, renamed_played}
use Rattle.rename.specs.Sameness.{pages_together, Renames, Given}
use Rattle.rename.specs.Composed.{in_turn, InTurn}
use Rattle.rename.proofs.Pages.{together_renamed}
use Rattle.rename.proofs.Sameness.{read_back}

-- two changes of each element are one
each_twice : {A : Type 0} (f g h : A → A) → ((a : A) → g (f a) ≡ h a) → (l : List A) → map g (map f l) ≡ map h l
each_twice f g h same l = map-map g f l ∙ map_congr_left {l = l} (λ a _. same a)

module _ (ρ σ : ℕ → ℕ) where
  -- a page that is renamed or not: in turn, or by both
  twice : (b : Bool) (page : ℕ) → held_page σ b (held_page ρ b page) ≡ held_page (in_turn ρ σ) b page
  twice true page = refl
  twice false page = refl

  -- lists of pages
  pages_in_turn : (pages : List ℕ) → renamed_pages σ (renamed_pages ρ pages) ≡ renamed_pages (in_turn ρ σ) pages
  pages_in_turn pages = map-map σ ρ pages

  -- pools
  pool_in_turn : (p : Pool) → renamed_pool σ (renamed_pool ρ p) ≡ renamed_pool (in_turn ρ σ) p
  pool_in_turn p =
      ap (with_frames p)
      (each_twice (renamed_frame ρ) (renamed_frame σ) (renamed_frame (in_turn ρ σ)) (λ fr. ap (with_page fr) (twice fr.used fr.page)) p.frames)

  -- traces, whichever orders they are written in on the way
  trace_in_turn : (o u : Order) (t : Trace) → renamed_trace σ u (renamed_trace ρ o t) ≡ renamed_trace (in_turn ρ σ) u t
  trace_in_turn o u t = ap (λ (pages : List ℕ). trace_from t.settings u pages t.kinds) (pages_in_turn t.pages)

  -- the bytes of an accepted trace
  bytes_in_turn : (p : Pool) (s : List ℕ) → Given p s → Renames ρ (pages_together p (trace_of s)) → (o u : Order) → renamed_bytes σ u (renamed_bytes ρ o s) ≡ renamed_bytes (in_turn ρ σ) u s
  bytes_in_turn p s given names o u = ap (λ (t : Trace). encode (renamed_trace σ u t)) (read_back ρ p s given names o) ∙ ap encode (trace_in_turn o u (trace_of s))

  -- rows
  row_in_turn : (w : Row) → renamed_row σ (renamed_row ρ w) ≡ renamed_row (in_turn ρ σ) w
  row_in_turn w = ap (λ (page : ℕ). row w.outcome w.frame page w.batch) (twice (is_eviction w) w.left)

  rows_in_turn : (ws : List Row) → map (renamed_row σ) (map (renamed_row ρ) ws) ≡ map (renamed_row (in_turn ρ σ)) ws
  rows_in_turn = each_twice (renamed_row ρ) (renamed_row σ) (renamed_row (in_turn ρ σ)) row_in_turn

  -- and what a replay came to
  played_in_turn : (r : Played) → renamed_played σ (renamed_played ρ r) ≡ renamed_played (in_turn ρ σ) r
  played_in_turn r = rw (rows_in_turn r.rows, pages_in_turn r.written, pool_in_turn r.pool)

  -- both together are one_to_one where the second is on the renamed pages
  names_in_turn : (pages : List ℕ) → Renames ρ pages → Renames σ (renamed_pages ρ pages) → Renames (in_turn ρ σ) pages
  names_in_turn pages first second = record {
    one_to_one = λ a b x y e. first.one_to_one a b x y (second.one_to_one (ρ a) (ρ b) (among_map ρ pages a x) (among_map ρ pages b y) e);
    four_bytes = λ a x. second.four_bytes (ρ a) (among_map ρ pages a x);
  }

  -- the pages of a trace and a pool, and those of the renamed ones
  together_in_turn : (p : Pool) (o : Order) (t : Trace) → Renames ρ (pages_together p t) → Renames σ (pages_together (renamed_pool ρ p) (renamed_trace ρ o t)) → Renames (in_turn ρ σ) (pages_together p t)
  together_in_turn p o t first second = names_in_turn (pages_together p t) first (subst (Renames σ) (together_renamed ρ p o t) second)

  pub in_turn_lem : InTurn ρ σ
  in_turn_lem = record { pages = pages_in_turn; pool = pool_in_turn; trace = trace_in_turn; bytes = bytes_in_turn; row = row_in_turn; played = played_in_turn; names = together_in_turn }

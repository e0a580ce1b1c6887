-- The printed example, over the list of its records: rows, pages written, hand, tally.
use mathlib.Core.Path.{◌≡◌, refl}
use mathlib.Core.List.{List, [], ◌∷◌}
use Rattle.search.specs.Search.{least_below, among}
use Rattle.trace.specs.declared.Record.{Record}
use Rattle.pool.specs.Pool.{fresh_pool}
use Rattle.reference.specs.Search.{find_page, lowest_unused}
use Rattle.reference.specs.Reference.{referred, hit_at, fetched_at}
use Rattle.victim.specs.Lru.{lru_victim, lru_choice}
use Rattle.victim.specs.Rules.{choice_of, batch_order}
use Rattle.batch.specs.Taken.{others_to}
use Rattle.batch.specs.Batch.{batch_of, cleaned, pages_of}
use Rattle.tally.specs.declared.Row.{Row}
use Rattle.tally.specs.Rows.{row}
use Rattle.tally.specs.Tally.{numbers_of, counted_by}
use Rattle.effect.specs.Record.{hit_of, leaving_of, eviction_of, miss_of, reference_of, record_of}
use Rattle.replay.specs.Replay.{replay_to}
use Rattle.worked.specs.Records.{read, write, lru, replayed, shown}

-- the printed example: LRU, f 2, batch 1, records read 7, write 8, read 7, read 9, read 8
abbrev pub printed : List Record
printed = read 7 ∷ write 8 ∷ read 7 ∷ read 9 ∷ read 8 ∷ []

-- page 8 leaves dirty, page 7 clean
abbrev pub printed_rows : List Row
printed_rows = row 1 0 0 0 ∷ row 1 1 0 0 ∷ row 0 0 0 0 ∷ row 3 1 8 1 ∷ row 2 0 7 0 ∷ []

-- page 8 is written
pub printed_rows_lem : shown (replayed (lru 2 1) printed) ≡ (printed_rows, 8 ∷ [], 0)
unfolding replay_to record_of reference_of hit_of miss_of eviction_of leaving_of fresh_pool find_page lowest_unused least_below referred hit_at fetched_at choice_of lru_choice lru_victim batch_of others_to batch_order among cleaned pages_of
printed_rows_lem = refl

-- hits 1, misses 4, evictions 2, batches 1, written 1, refused 0
pub printed_tally : numbers_of (replayed (lru 2 1) printed).tally ≡ 1 ∷ 4 ∷ 2 ∷ 1 ∷ 1 ∷ 0 ∷ []
unfolding counted_by replay_to record_of reference_of hit_of miss_of eviction_of leaving_of fresh_pool find_page lowest_unused least_below referred hit_at fetched_at choice_of lru_choice lru_victim batch_of others_to batch_order among cleaned pages_of
printed_tally = refl

-- five accepted references
pub printed_k : (replayed (lru 2 1) printed).pool.k ≡ 5
unfolding replay_to record_of reference_of hit_of miss_of eviction_of leaving_of fresh_pool find_page lowest_unused least_below referred hit_at fetched_at choice_of lru_choice lru_victim batch_of others_to batch_order among cleaned pages_of
printed_k = refl

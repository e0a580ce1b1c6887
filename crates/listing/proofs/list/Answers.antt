use Rattle.std.proofs.Common.{ℕ}
use Rattle.std.proofs.lemmas.List.{length-replicate}
use Rattle.listing.proofs.Laws.{row_places, written_places, listed}
use Rattle.listing.proofs.list.Goals as goal

pub returns-then-ended-ne0 : goal.returns-then-ended-ne0
returns-then-ended-ne0 g c = listed c.args.pool c.args.tally c.args.bytes.now _ _ _ (length-replicate {A = ℕ} row_places 0) (length-replicate {A = ℕ} written_places 0) c.replayed-ended.ensures.answers

pub returns : goal.returns
returns g c = listed c.args.pool c.args.tally c.args.bytes.now _ _ _ (length-replicate {A = ℕ} row_places 0) (length-replicate {A = ℕ} written_places 0) c.replayed-ended.ensures.answers

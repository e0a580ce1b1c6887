use mathlib.Core.Path.{◌≡◌, sym, refl}
use Prim.Native.Nat.{ℕ}
use native.Mathlib.Omega.{arith}
use lib.ListN.{length, length-replicate}
use lib.Seq.{length-take-le}
use Rattle.trace.specs.Layout.{file_length, record_limit}
use Rattle.word.proofs.Laws.{Bytes, bytes_of_lem}
use Rattle.refusal.proofs.Laws.{passed_on, number_some}
use Rattle.amend.specs.Amend.{refused_sheet}
use Rattle.amend.proofs.Laws.{with_refused, with_whole, set_short}
use borrow.Author.Rules.{rules}
use Rattle.amend.proofs.counts.Goals as goal

pub returns-in_err-set : goal.returns-in_err-set
returns-in_err-set c =
    let a = c.args in
    let long = length-replicate {A = ℕ} (file_length record_limit) 0 in
    let some = number_some c.in_err-set.field-0.0 in
    rw (passed_on c.from_residual.result (refused_sheet c.in_err-set.field-0.0) c.from_residual.ensures) (with_refused a.bytes.now a.wish _ _ _ long c.in_err-set.ensures.set_into.answers (λ z. omega arith) refl)

pub slice_bounds-space-end : goal.slice_bounds-space-end
slice_bounds-space-end c =
    let a = c.args in
    let bs : Bytes a.bytes.now = bytes_of_lem a.bytes.now (λ i. let f = c.type_inv.bytes i in omega arith) in
    let short = set_short a.bytes.now a.wish _ bs (sym c.in_ok-set.ensures.set_into.answers) in
    let long : length c.set.new.out ≡ 64048 = search rules in
    omega arith

pub slice_bounds-counts_of-end : goal.slice_bounds-counts_of-end
slice_bounds-counts_of-end c =
    let a = c.args in
    let bs : Bytes a.bytes.now = bytes_of_lem a.bytes.now (λ i. let f = c.type_inv.bytes i in omega arith) in
    let short = set_short a.bytes.now a.wish _ bs (sym c.in_ok-set.ensures.set_into.answers) in
    let long : length c.set.new.out ≡ 64048 = search rules in
    sym (length-take-le (length a.bytes.now) c.set.new.out (omega arith))

pub returns : goal.returns
returns c =
    let a = c.args in
    let long = length-replicate {A = ℕ} (file_length record_limit) 0 in
    with_whole a.bytes.now a.wish _ _ c.set.new.out _ long c.in_ok-set.ensures.set_into.answers refl c.in_ok-set.ensures.sets_back c.counts_of.ensures

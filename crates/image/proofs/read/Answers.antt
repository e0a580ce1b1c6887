use mathlib.Core.Path.{refl, ap, ◌∙◌}
use Rattle.refusal.proofs.Laws.{passed_on}
use Rattle.pool.specs.Pool.{refused_pool, opened_by}
use Rattle.image.proofs.Laws.{number_ne, read_none, read_unsound, read_sound}
use Rattle.image.proofs.read.Goals as goal

pub returns-in_err-whole : goal.returns-in_err-whole
returns-in_err-whole c =
    ap opened_by (passed_on _ _ c.from_residual.ensures) ∙ read_none c.args.bytes.now _ c.in_err-whole.ensures (number_ne _)

pub returns-in_err-check : goal.returns-in_err-check
returns-in_err-check c =
    read_unsound c.args.bytes.now _ _ _ c.in_ok-whole.ensures refl c.in_err-check.ensures (number_ne _) (ap opened_by (passed_on c.from_residual-in_err-check.result (refused_pool c.in_err-check.field-0.0) c.from_residual-in_err-check.ensures))

pub returns : goal.returns
returns c = read_sound c.args.bytes.now _ _ c.in_ok-whole.ensures refl c.in_ok-check.ensures refl

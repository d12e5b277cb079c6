-- `operand_code::full::with_index` meets its contract.
-- Assumes nothing.
use mathlib.Core.Path.{refl, sym, ◌∙◌}
use Rattle.operand.specs.Operand.{or_none}
use Rattle.expressions.specs.Paths.{answered, bound}
use Rattle.operand_code.proofs.malformed.Failures.{stopped}
use Rattle.operand_code.proofs.full.with_index.Goals as goal

pub returns-in_err-x-clause-told : goal.returns-in_err-x-clause-told
unfolding or_none
returns-in_err-x-clause-told c =
    let t = c.parse_index_register.ensures.told in
    stopped _ t c.in_err-x.was c.from_residual.ensures t.held

pub returns-clause-told : goal.returns-clause-told
unfolding or_none
returns-clause-told c =
    let t = c.parse_index_register.ensures.told in
    bound t (sym t.what ∙ c.in_ok-x.was) (answered refl refl t.held)

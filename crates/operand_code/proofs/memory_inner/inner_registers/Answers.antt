-- `operand_code::memory_inner::inner_registers` meets its contract.
-- Assumes nothing.
use mathlib.Core.Path.{refl, sym, ◌∙◌}
use Rattle.operand.specs.Operand.{or_none}
use Rattle.expressions.specs.Paths.{bound}
use Rattle.operand_code.proofs.memory.Inners.{stored_on, inner_answered}
use Rattle.operand_code.proofs.malformed.Failures.{stopped}
use Rattle.operand_code.proofs.memory_inner.inner_registers.Goals as goal

pub returns-in_err-registers-clause-told : goal.returns-in_err-registers-clause-told
unfolding or_none
returns-in_err-registers-clause-told c =
    let t = c.parse_base_and_index_registers.ensures.told in
    record { told = λ N N' n y e st. stopped _ t c.in_err-registers.was c.from_residual.ensures tt }

pub returns-clause-told : goal.returns-clause-told
unfolding or_none
returns-clause-told c =
    let t = c.parse_base_and_index_registers.ensures.told in
    record { told = λ N N' n y e st. bound t (sym t.what ∙ c.in_ok-registers.was) (inner_answered _ y e refl refl (stored_on st t.held)) }

-- `operand_code::memory::close_indirect` meets its contract.
-- Assumes nothing.
use mathlib.Core.Path.{sym, ◌∙◌}
use Rattle.operand.specs.Operand.{or_none}
use Rattle.operand_code.specs.Operands.{HeldBy}
use Rattle.expressions.specs.Paths.{bound}
use Rattle.operand_code.proofs.memory.Inners.{operand_closed}
use Rattle.operand_code.proofs.malformed.Failures.{stopped}
use Rattle.operand_code.proofs.memory.close_indirect.Goals as goal

pub returns-in_err-end-clause-told : goal.returns-in_err-end-clause-told
unfolding or_none HeldBy
returns-in_err-end-clause-told c =
    let t = c.expect_close.ensures.told in
    record { told = λ N x y a b st. stopped _ t c.in_err-end.was c.from_residual.ensures tt }

pub returns-clause-told : goal.returns-clause-told
unfolding or_none HeldBy
returns-clause-told c =
    let t = c.expect_close.ensures.told in
    record { told = λ N x y a b st. bound t (sym t.what ∙ c.in_ok-end.was) (operand_closed x y a b st t.held c.span_to.ensures c.memory_indirect.ensures) }

-- `operand_code::parentheses::grouped_expression` meets its contract.
-- Assumes nothing.
use Rattle.operand_code.proofs.Holdings.{group_told}
use Rattle.operand_code.proofs.parentheses.grouped_expression.Goals as goal

pub returns-clause-told : goal.returns-clause-told
returns-clause-told c =
    record { told = λ e s w. group_told _ _ _ c.requires c.expression_behind-span.ensures.told e s _ c.finish_expression_operand.ensures.told }

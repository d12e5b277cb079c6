-- `operand_code::absolutes::finish_expression_operand` meets its contract.
-- Assumes nothing.
use mathlib.Core.Path.{◌∙◌}
use Rattle.operand.specs.Operand.{finish_expression_operand}
use Rattle.operand_code.proofs.operands.Returns.{behind_either, absolute_bare, absolute_sized}
use Rattle.operand_code.proofs.absolutes.finish_expression_operand.Goals as goal

pub returns-clause-told : goal.returns-clause-told
unfolding finish_expression_operand
returns-clause-told c =
    let x = c.size_behind-x.ensures.told in
    let record_is = c.absolute.ensures ∙ rw c.span_to.ensures in
    record { told = λ e n v. behind_either c.args.value x e v (λ a b. absolute_bare e n x.told.held _ record_is a b) (absolute_sized e n x.told.held _ _ record_is) }

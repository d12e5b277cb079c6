-- `operand_code::indexes::index_scale_value` meets its contract.
-- Assumes nothing.
use native.Mathlib.Omega.{arith}
use Rattle.operand_code.proofs.indexes.Returns.{value_scaled}
use Rattle.operand_code.proofs.indexes.index_scale_value.Goals as goal

pub returns-clause-told : goal.returns-clause-told
returns-clause-told c =
    value_scaled _ _ _ _ _ (omega (arith, c.requires)) c.number_value-value.ensures.told c.scaled.ensures.told

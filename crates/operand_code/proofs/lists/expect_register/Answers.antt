-- `operand_code::lists::expect_register` meets its contract.
-- Assumes nothing.
use Rattle.operand_code.proofs.Next.{not_some}
use Rattle.operand_code.proofs.lists.Ranges.{register_found, register_missed}
use Rattle.operand_code.proofs.lists.expect_register.Goals as goal

pub returns-then-is_none-clause-told : goal.returns-then-is_none-clause-told
returns-then-is_none-clause-told c =
    register_missed c.next_register-found.ensures (not_some _ c.if-is_none.ensures) c.register_expected.ensures.told

pub returns-else-is_none-clause-told : goal.returns-else-is_none-clause-told
returns-else-is_none-clause-told c =
    register_found c.next_register-found.ensures c.if-is_none.ensures

-- `operand_code::reading::read` meets its contract.
-- Assumes nothing.
use native.Mathlib.Omega.{arith}
use Rattle.operand_code.proofs.reading.Cleared.{operand_kept, nothing_kept}
use Rattle.operand_code.proofs.reading.read.Goals as goal

pub returns-in_default-clause-told : goal.returns-in_default-clause-told
returns-in_default-clause-told c =
    nothing_kept _ c.requires c.operand_from.ensures.told (omega (arith, c.operand_from.auto)) c.in_default.is c.nothing.ensures

pub returns-clause-told : goal.returns-clause-told
returns-clause-told c =
    operand_kept _ c.requires c.operand_from.ensures.told (omega (arith, c.operand_from.auto)) c.in-Some.is c.clear_behind.ensures

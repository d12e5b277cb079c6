-- `operand_code::bases::closed_counter` meets its contract.
-- Assumes nothing.
use mathlib.Core.Path.{refl}
use Rattle.operand_code.proofs.bases.Tails.{counter_displaced, counter_alone}
use Rattle.operand_code.proofs.bases.closed_counter.Goals as goal

pub returns-then-is_none-clause-told : goal.returns-then-is_none-clause-told
returns-then-is_none-clause-told c =
    record { told = λ y e z. counter_alone _ _ y e c.if-is_none.ensures c.malformed.ensures.told refl }

pub returns-clause-told : goal.returns-clause-told
returns-clause-told c =
    record { told = λ y e z. counter_displaced _ _ y e z c.if-is_none.ensures refl c.span_to-span.ensures c.plain_operand.ensures }

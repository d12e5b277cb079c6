-- `operand_code::parentheses::parse_parenthesised_operand` meets its contract.
-- Assumes nothing.
use native.Mathlib.Omega.{arith}
use Rattle.operand.specs.Operand.{parse_parenthesised_operand}
use Rattle.operand_code.proofs.Next.{hit_some, miss_some}
use Rattle.operand_code.proofs.parentheses.parse_parenthesised_operand.Goals as goal

pub returns-then-is_none-clause-told : goal.returns-then-is_none-clause-told
unfolding parse_parenthesised_operand
returns-then-is_none-clause-told c =
    let h = c.next_of_kind.ensures in
    record { told = miss_some h c.if-is_none.ensures c.unbracketed.ensures.told.told }

pub returns-clause-told : goal.returns-clause-told
unfolding parse_parenthesised_operand
returns-clause-told c =
    let h = c.next_of_kind.ensures in
    record { told = hit_some h c.if-is_none.ensures (omega (arith, c.requires.0)) λ k w. c.parse_memory_indirect.ensures.told.told }

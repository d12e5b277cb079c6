-- `operand_code::lists::list_item` meets its contract.
-- Assumes nothing.
use native.Mathlib.Omega.{arith}
use Rattle.operand_code.proofs.lists.Ranges.{found_at, single_told, range_none, range_some}
use Rattle.operand_code.proofs.Next.{not_some}
use Rattle.operand_code.proofs.lists.list_item.Goals as goal

pub returns-then-is_none-clause-told : goal.returns-then-is_none-clause-told
returns-then-is_none-clause-told c =
    single_told c.args.r c.requires.0.within c.requires.1 c.single.ensures c.next_of_kind.ensures (not_some _ c.if-is_none.ensures)

pub ranged-requires : goal.ranged-requires
ranged-requires c =
    omega (arith, c.requires, c.next_of_kind.ensures, found_at c.expect_register.ensures.told c.in_ok-to.was)

pub returns-in_err-to-clause-told : goal.returns-in_err-to-clause-told
returns-in_err-to-clause-told c =
    rw c.from_residual.ensures (range_none c.args.r c.next_of_kind.ensures c.if-is_none.ensures (omega (arith, c.requires.0)) c.expect_register.ensures.told c.in_err-to.was)

pub returns-clause-told : goal.returns-clause-told
returns-clause-told c =
    range_some c.args.r c.next_of_kind.ensures c.if-is_none.ensures (omega (arith, c.requires.0)) c.requires.1 c.expect_register.ensures.told c.in_ok-to.was c.ranged.ensures.told

-- `terminal::call::put_answer` meets its contract.
-- Assumes nothing.
use Rattle.terminal.proofs.call.Puts.{operand_put, none_put}
use Rattle.terminal.proofs.call.put_answer.Goals as goal

pub returns-in-Some : goal.returns-in-Some
returns-in-Some c =
    operand_put _ _ _ _ _ c.requires c.head_size-head.ensures _ c.in-Some.is _ _ _ c.operand_size.ensures (rw c.from-case.ensures at c.write_head.ensures) c.write_operand.ensures (rw c.to_le_bytes-mask.ensures at c.write.ensures)

pub returns-in-None : goal.returns-in-None
returns-in-None c =
    none_put _ _ _ _ _ c.requires c.head_size-head.ensures c.in-None.is (rw c.from-case-in-None.ensures at c.write_head-in-None.ensures) _ _ c.answer_bytes.ensures (c.fill.ensures.after (λ y e. e))

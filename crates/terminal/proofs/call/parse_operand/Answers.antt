-- `terminal::call::parse_operand` meets its contract.
-- Assumes nothing.
use native.Mathlib.Omega.{arith}
use Rattle.terminal.proofs.call.Puts.{short, answer_told, refusal_told}
use Rattle.terminal.proofs.call.parse_operand.Goals as goal

pub returns-then-out-answer_bytes : goal.returns-then-out-answer_bytes
returns-then-out-answer_bytes c =
    short _ _ (omega (arith, c.if-out-answer_bytes.true, c.answer_bytes.ensures))

pub put_answer-requires : goal.put_answer-requires
put_answer-requires c =
    omega (arith, c.if-out-answer_bytes.false, c.answer_bytes.ensures)

pub returns-in-Ok : goal.returns-in-Ok
returns-in-Ok c =
    answer_told _ _ _ _ (omega (arith, c.if-out-answer_bytes.false, c.answer_bytes.ensures)) _ (rw c.in-Ok.is at c.parse_operand.ensures) _ c.put_answer.ensures

pub returns-in-Err : goal.returns-in-Err
returns-in-Err c =
    refusal_told _ _ _ _ (omega (arith, c.if-out-answer_bytes.false, c.answer_bytes.ensures)) _ _ (rw c.in-Err.is at c.parse_operand.ensures) c.from.ensures

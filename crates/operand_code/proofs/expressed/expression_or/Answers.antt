-- `operand_code::expressed::expression_or` meets its contract.
-- Assumes nothing.
use mathlib.Core.Path.{refl, ◌∙◌, ap}
use native.Mathlib.Omega.{arith}
use Rattle.std.specs.Prelude.{Err}
use Rattle.expressions.specs.Paths.{told_one, raised_as}
use Rattle.operand_code.specs.Absolutes.{there, failed, missed}
use Rattle.operand_code.proofs.expressed.Trees.{absent_room}
use Rattle.operand_code.proofs.expressed.expression_or.Goals as goal

pub returns-in-Ok-clause-told : goal.returns-in-Ok-clause-told
returns-in-Ok-clause-told c =
    there _ refl (rw c.in-Ok.is at c.expression_at.ensures.told)

pub returns-in-Err-Reported-clause-told : goal.returns-in-Err-Reported-clause-told
returns-in-Err-Reported-clause-told c =
    failed refl (rw (c.in-Err-Reported.is ∙ ap Err c.in-Err-Reported.field-0-is) at c.expression_at.ensures.told)

pub returns-in-Err-Absent-clause-told : goal.returns-in-Err-Absent-clause-told
returns-in-Err-Absent-clause-told c =
    let a = c.in-Err-Absent.is ∙ ap Err c.in-Err-Absent.field-0-is in
    missed refl (rw a at c.expression_at.ensures.told) (raised_as c.expression_expected.ensures (told_one (omega (arith, absent_room _ _ c.requires c.expression_at.ensures.told a)) c.raise.ensures.told c.raise.ensures.counted))

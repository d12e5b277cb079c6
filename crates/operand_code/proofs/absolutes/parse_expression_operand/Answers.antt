-- `operand_code::absolutes::parse_expression_operand` meets its contract.
-- Assumes nothing.
use mathlib.Core.Path.{refl, ◌∙◌, ap}
use native.Mathlib.Omega.{arith}
use Rattle.std.specs.Prelude.{Err}
use Rattle.operand.specs.Operands.{undisplaced}
use Rattle.operand.specs.Operand.{parse_expression_operand, or_absent, no_expression}
use Rattle.operand_code.proofs.expressed.Trees.{tree_read, absent_room}
use Rattle.operand_code.proofs.Holdings.{nothing_stored, unstored_told, tree_stored, tree_stands, stands_size, absent_nodes, behind_tree, behind_reported, behind_absent}
use Rattle.operand_code.proofs.absolutes.parse_expression_operand.Goals as goal

pub displaced_or_absolute-requires : goal.displaced_or_absolute-requires
displaced_or_absolute-requires c =
    (tree_read _ _ c.requires.0 c.expression_at.ensures.told c.in-Ok.is (omega (arith, c.expression_at.auto))).room.room

pub no_expression-requires : goal.no_expression-requires
no_expression-requires c =
    absent_room _ _ c.requires.0 c.expression_at.ensures.told (c.in-Err-Absent.is ∙ ap Err c.in-Err-Absent.field-0-is)

pub returns-in-Ok-clause-told : goal.returns-in-Ok-clause-told
unfolding parse_expression_operand or_absent no_expression
returns-in-Ok-clause-told c =
    let t = tree_read _ _ c.requires.0 c.expression_at.ensures.told c.in-Ok.is (omega (arith, c.expression_at.auto)) in
    record { told = behind_tree _ _ c.requires.0 c.expression_at.ensures.told t (tree_stored _ (tree_stands t c.requires.1) (c.displaced_or_absolute.ensures.told.told _ (stands_size (tree_stands t c.requires.1)) t.span)) }

pub returns-in-Err-Reported-clause-told : goal.returns-in-Err-Reported-clause-told
unfolding parse_expression_operand or_absent no_expression
returns-in-Err-Reported-clause-told c =
    record { told = behind_reported _ _ c.requires.0 c.expression_at.ensures.told (c.in-Err-Reported.is ∙ ap Err c.in-Err-Reported.field-0-is) (nothing_stored _ refl refl) }

pub returns-in-Err-Absent-clause-told : goal.returns-in-Err-Absent-clause-told
unfolding parse_expression_operand or_absent no_expression
returns-in-Err-Absent-clause-told c =
    record { told = behind_absent _ _ c.requires.0 c.expression_at.ensures.told (c.in-Err-Absent.is ∙ ap Err c.in-Err-Absent.field-0-is) (unstored_told _ (absent_nodes _ _ c.requires.0 c.expression_at.ensures.told (c.in-Err-Absent.is ∙ ap Err c.in-Err-Absent.field-0-is) c.requires.1) (c.no_expression.ensures.told.told _ undisplaced)) }

-- `operand_code::memory_displacements::parse_sized_displacement` meets its contract.
-- Assumes nothing.
use mathlib.Core.Path.{refl, sym, ◌∙◌, ap}
use native.Mathlib.Omega.{arith}
use Rattle.records.specs.Problems
use Rattle.records.specs.Shapes
use Rattle.operand.specs.Operand.{parse_sized_displacement, or_absent}
use Rattle.expressions.specs.Paths.{answered, bound}
use Rattle.operand_code.proofs.malformed.Failures.{failed_over}
use Rattle.operand_code.proofs.expressed.Trees.{term_told, tree_read, absent_room}
use Rattle.expressions_code.specs.Answers.{what_reported, what_absent}
use Rattle.operand_code.proofs.memory.Inners.{displacement_read_lem}
use Rattle.operand_code.proofs.memory_displacements.parse_sized_displacement.Goals as goal
use Rattle.std.specs.Prelude.{Err}

pub sized-requires : goal.sized-requires
sized-requires c =
    (tree_read _ _ c.requires c.expression_at.ensures.told c.in-Ok.is (omega (arith, c.expression_at.auto))).room.room

pub stepped_over-requires : goal.stepped_over-requires
stepped_over-requires c =
    absent_room _ _ c.requires c.expression_at.ensures.told (c.in-Err-Absent.is ∙ ap Err c.in-Err-Absent.field-0-is)

pub returns-in-Ok-clause-told : goal.returns-in-Ok-clause-told
unfolding parse_sized_displacement or_absent
returns-in-Ok-clause-told c =
    let t = tree_read _ _ c.requires c.expression_at.ensures.told c.in-Ok.is (omega (arith, c.expression_at.auto)) in
    record { told = bound (term_told _ _ c.requires c.expression_at.ensures.told) t.value (displacement_read_lem t c.sized.ensures.told) }

pub returns-in-Err-Reported-clause-told : goal.returns-in-Err-Reported-clause-told
unfolding parse_sized_displacement or_absent
returns-in-Err-Reported-clause-told c =
    let t = term_told _ _ c.requires c.expression_at.ensures.told in
    record { told = bound t (what_reported _ (sym t.what ∙ c.in-Err-Reported.is ∙ ap Err c.in-Err-Reported.field-0-is)) (answered refl refl tt) }

pub returns-in-Err-Absent-clause-told : goal.returns-in-Err-Absent-clause-told
unfolding parse_sized_displacement or_absent
returns-in-Err-Absent-clause-told c =
    let t = term_told _ _ c.requires c.expression_at.ensures.told in
    record { told = bound t (what_absent _ (sym t.what ∙ c.in-Err-Absent.is ∙ ap Err c.in-Err-Absent.field-0-is)) (failed_over _ Shapes.memory_indirect Problems.a_displacement_missing c.stepped_over.ensures.told refl refl tt) }

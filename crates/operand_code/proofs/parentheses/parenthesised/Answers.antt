-- `operand_code::parentheses::parenthesised` meets its contract.
-- Assumes nothing.
use mathlib.Core.Path.{refl}
use native.Mathlib.Omega.{arith}
use Rattle.operand.specs.Operand.{parenthesised, or_absent}
use Rattle.operand_code.proofs.expressed.Trees.{tree_read}
use Rattle.operand_code.proofs.Holdings.{tree_stands, behind_tree}
use Rattle.operand_code.proofs.operands.Behind.{or_read, or_fails}
use Rattle.operand_code.proofs.parentheses.parenthesised.Goals as goal

pub returns-in_err-span-clause-told : goal.returns-in_err-span-clause-told
unfolding parenthesised
returns-in_err-span-clause-told c =
    record { told = rw c.from_residual.ensures (or_fails c.args.source.now.setting _ c.requires.0 c.expression_or.ensures.told c.in_err-span.was) }

pub after_expression-requires : goal.after_expression-requires
after_expression-requires c =
    (tree_read _ _ c.requires.0 (or_read c.expression_or.ensures.told c.in_ok-span.was) refl (omega (arith, c.expression_or.auto))).room

pub returns-clause-told : goal.returns-clause-told
unfolding parenthesised or_absent
returns-clause-told c =
    let p = or_read c.expression_or.ensures.told c.in_ok-span.was in
    let t = tree_read _ _ c.requires.0 p refl (omega (arith, c.expression_or.auto)) in
    record { told = behind_tree _ _ c.requires.0 p t (c.after_expression.ensures.told.told _ (tree_stands t c.requires.1) t.span) }

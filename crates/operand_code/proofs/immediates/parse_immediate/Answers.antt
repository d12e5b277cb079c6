-- `operand_code::immediates::parse_immediate` meets its contract.
-- Assumes nothing.
use mathlib.Core.Path.{refl}
use native.Mathlib.Omega.{arith}
use Rattle.operand.specs.Operand.{parse_immediate, or_absent}
use Rattle.operand_code.proofs.expressed.Trees.{tree_read}
use Rattle.operand_code.proofs.Holdings.{tree_stored, tree_stands, stands_size, behind_tree}
use Rattle.operand_code.proofs.operands.Behind.{or_read, or_fails}
use Rattle.operand_code.proofs.immediates.parse_immediate.Goals as goal

pub returns-in_err-span-clause-told : goal.returns-in_err-span-clause-told
unfolding parse_immediate
returns-in_err-span-clause-told c =
    record { told = rw c.from_residual.ensures (or_fails c.args.source.now.setting _ c.requires.0 c.expression_or.ensures.told c.in_err-span.was) }

pub immediate_size-requires : goal.immediate_size-requires
immediate_size-requires c =
    (tree_read _ _ c.requires.0 (or_read c.expression_or.ensures.told c.in_ok-span.was) refl (omega (arith, c.expression_or.auto))).room.room

pub returns-clause-told : goal.returns-clause-told
unfolding parse_immediate or_absent
returns-clause-told c =
    let p = or_read c.expression_or.ensures.told c.in_ok-span.was in
    let t = tree_read _ _ c.requires.0 p refl (omega (arith, c.expression_or.auto)) in
    record { told = behind_tree _ _ c.requires.0 p t (tree_stored _ (tree_stands t c.requires.1) (c.immediate_size.ensures.told.told _ (stands_size (tree_stands t c.requires.1)) t.span)) }

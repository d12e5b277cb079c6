-- `operand_code::memory::after_inner` meets its contract.
-- Assumes nothing.
use mathlib.Core.Path.{sym, ◌∙◌}
use native.Mathlib.Omega.{arith}
use Rattle.operand.specs.Operand.{or_none}
use Rattle.operand_code.specs.Operands.{HeldBy}
use Rattle.expressions.specs.Paths.{held_as, bound}
use Rattle.operand_code.proofs.memory.Inners.{outer_room, outer_of_lem, operand_behind}
use Rattle.operand_code.proofs.Rooms.{map_is, map_not}
use Rattle.operand_code.proofs.malformed.Failures.{stopped_by}
use Rattle.operand_code.proofs.memory.after_inner.Goals as goal

pub returns-in_err-u-clause-told : goal.returns-in_err-u-clause-told
unfolding or_none HeldBy
returns-in_err-u-clause-told c =
    record { told = λ x a st. let t = (outer_of_lem _ x a c.parse_outer.ensures.told).told in stopped_by _ t (map_not _ _ (sym t.what ∙ c.in_err-u.was)) c.from_residual.ensures tt }

pub close_indirect-requires : goal.close_indirect-requires
close_indirect-requires c =
    let t = c.parse_outer.ensures.told in
    (outer_room _ _ c.requires t (map_is _ _ (sym t.told.what ∙ c.in_ok-u.was)).is (omega (arith, c.parse_outer.auto))).room

pub returns-clause-told : goal.returns-clause-told
unfolding or_none HeldBy
returns-clause-told c =
    record {
      told = λ x a st. let t = (outer_of_lem _ x a c.parse_outer.ensures.told).told in
          let y = map_is _ _ (sym t.what ∙ c.in_ok-u.was) in
          bound t y.is (operand_behind x y.part a y.form st (held_as t y.is) c.close_indirect.ensures.told);
    }

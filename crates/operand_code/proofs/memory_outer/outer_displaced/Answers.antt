-- `operand_code::memory_outer::outer_displaced` meets its contract.
-- Assumes nothing.
use mathlib.Core.Path.{refl, sym, ◌∙◌, ap}
use Rattle.operand.specs.Operand.{or_none}
use Rattle.expressions.specs.Paths.{held_as, bound}
use Rattle.operand_code.proofs.memory.Inners.{outer_answered}
use Rattle.operand_code.proofs.Rooms.{map_is, map_not}
use Rattle.operand_code.proofs.malformed.Failures.{stopped_by}
use Rattle.operand_code.proofs.memory_outer.outer_displaced.Goals as goal
use Rattle.std.specs.Prelude.{Some, option_map}

pub returns-in_err-d-clause-told : goal.returns-in_err-d-clause-told
unfolding or_none
returns-in_err-d-clause-told c =
    let t = c.parse_sized_displacement.ensures.told.told in
    record { told = stopped_by _ t (map_not _ _ (sym t.what ∙ ap (option_map Some) c.in_err-d.was)) c.from_residual.ensures tt }

pub returns-clause-told : goal.returns-clause-told
unfolding or_none
returns-clause-told c =
    let t = c.parse_sized_displacement.ensures.told.told in
    let y = map_is _ _ (sym t.what ∙ ap (option_map Some) c.in_ok-d.was) in
    record { told = bound t y.is (outer_answered _ _ _ y.form refl refl (held_as t y.is)) }

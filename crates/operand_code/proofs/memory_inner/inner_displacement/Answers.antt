-- `operand_code::memory_inner::inner_displacement` meets its contract.
-- Assumes nothing.
use mathlib.Core.Path.{sym, ◌∙◌, ap}
use native.Mathlib.Omega.{arith}
use Rattle.operand.specs.Operand.{or_none}
use Rattle.expressions.specs.Paths.{held_as, bound}
use Rattle.operand_code.proofs.memory.Inners.{displacement_room}
use Rattle.operand_code.proofs.Rooms.{map_is, map_not}
use Rattle.operand_code.proofs.malformed.Failures.{stopped_by}
use Rattle.operand_code.proofs.memory_inner.inner_displacement.Goals as goal
use Rattle.std.specs.Prelude.{Some, option_map}

pub inner_displaced-requires : goal.inner_displaced-requires
inner_displaced-requires c =
    let t = c.parse_sized_displacement.ensures.told in
    (displacement_room _ c.requires t (map_is _ _ (sym t.told.what ∙ ap (option_map Some) c.in_ok-d.was)).is (omega (arith, c.parse_sized_displacement.auto))).room

pub returns-in_err-d-clause-told : goal.returns-in_err-d-clause-told
unfolding or_none
returns-in_err-d-clause-told c =
    let t = c.parse_sized_displacement.ensures.told.told in
    record { told = stopped_by _ t (map_not _ _ (sym t.what ∙ ap (option_map Some) c.in_err-d.was)) c.from_residual.ensures tt }

pub returns-clause-told : goal.returns-clause-told
unfolding or_none
returns-clause-told c =
    let t = c.parse_sized_displacement.ensures.told.told in
    let y = map_is _ _ (sym t.what ∙ ap (option_map Some) c.in_ok-d.was) in
    record { told = bound t y.is (c.inner_displaced.ensures.told.told _ _ _ y.part y.form (held_as t y.is)) }

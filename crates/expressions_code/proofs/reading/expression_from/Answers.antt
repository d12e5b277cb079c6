-- `expressions_code::reading::expression_from` meets its contract.
-- Assumes nothing.
use mathlib.Core.Path.{refl}
use native.Mathlib.Omega.{arith}
use Rattle.expressions_code.specs.Reading.{unclimbed}
use Rattle.expressions_code.proofs.reading.Kept.{from_kept, room_fits, room_lacks}
use Rattle.expressions_code.proofs.reading.expression_from.Goals as goal

pub returns-then-not-has_room-clause-told : goal.returns-then-not-has_room-clause-told
returns-then-not-has_room-clause-told c =
    unclimbed refl (room_lacks c.has_room.ensures c.if-not-has_room.true-raw) refl refl refl

pub returns-clause-told : goal.returns-clause-told
returns-clause-told c =
    from_kept c.from-room.ensures (room_fits c.has_room.ensures c.if-not-has_room.false-raw) (omega (arith, c.widen.auto, c.parse_expression_from-span.auto)) c.widen.ensures c.parse_expression_from-span.ensures.told c.clear_nodes.ensures

-- `expressions_code::reading::expression` meets its contract.
-- Assumes nothing.
use mathlib.Core.Path.{refl}
use native.Mathlib.Omega.{arith}
use Rattle.expressions_code.specs.Reading.{unread}
use Rattle.expressions_code.proofs.reading.Kept.{expression_kept, room_fits, room_lacks}
use Rattle.expressions_code.proofs.reading.expression.Goals as goal

pub returns-then-not-has_room-clause-told : goal.returns-then-not-has_room-clause-told
returns-then-not-has_room-clause-told c =
    unread refl (room_lacks c.has_room.ensures c.if-not-has_room.true-raw) refl refl refl

pub returns-clause-told : goal.returns-clause-told
returns-clause-told c =
    expression_kept c.from-room.ensures (room_fits c.has_room.ensures c.if-not-has_room.false-raw) (omega (arith, c.parse_expression-read.auto)) c.parse_expression-read.ensures.told c.clear_nodes.ensures

-- `operand_code::bases::base_and_index` meets its contract.
-- Assumes nothing.
use mathlib.Core.Path.{sym, ◌∙◌, ap}
use Rattle.operand.specs.Operand.{parse_index_register, or_none}
use Rattle.operand_code.specs.Operands.{HeldBy}
use Rattle.expressions.specs.Paths.{renamed, bound}
use Rattle.operand_code.proofs.Rooms.{index_room}
use Rattle.operand_code.proofs.bases.Tails.{kept_from}
use Rattle.operand_code.proofs.malformed.Failures.{stopped}
use Rattle.operand_code.proofs.bases.base_and_index.Goals as goal

pub returns-in_err-x-clause-told : goal.returns-in_err-x-clause-told
unfolding or_none HeldBy
returns-in_err-x-clause-told c =
    let t = renamed (ap (parse_index_register _) c.index_shape.ensures) c.parse_index_register.ensures.told in
    record { told = λ y e plain g. stopped _ t c.in_err-x.was c.from_residual.ensures (t.held, tt) }

pub close_index-requires : goal.close_index-requires
close_index-requires c =
    index_room _ _ c.requires c.parse_index_register.ensures.told c.in_ok-x.was

pub returns-clause-told : goal.returns-clause-told
unfolding or_none HeldBy
returns-clause-told c =
    let t = renamed (ap (parse_index_register _) c.index_shape.ensures) c.parse_index_register.ensures.told in
    record { told = λ y e plain g. bound t (sym t.what ∙ c.in_ok-x.was) (kept_from y t.held (c.close_index.ensures.told.told y e plain g)) }

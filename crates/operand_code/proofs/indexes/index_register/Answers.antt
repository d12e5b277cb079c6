-- `operand_code::indexes::index_register` meets its contract.
-- Assumes nothing.
use mathlib.Core.Path.{refl, ◌∙◌, ap}
use Rattle.operand.specs.Operand.{index_register}
use Rattle.operand_code.specs.Told.{size_or_none}
use Rattle.expressions.specs.Paths.{bound, renamed, same}
use Rattle.operand_code.proofs.Rooms.{suffix_room}
use Rattle.operand_code.proofs.indexes.Returns.{index_sized}
use Rattle.operand_code.proofs.indexes.index_register.Goals as goal

pub index_scale-requires : goal.index_scale-requires
index_scale-requires c =
    suffix_room _ c.requires c.size_behind-x.ensures.told.told

pub returns-clause-told : goal.returns-clause-told
unfolding index_register
returns-clause-told c =
    let x = c.size_behind-x.ensures.told in
    bound x.told refl (same x.told.held (renamed (index_sized _ _ _ _ _ (x.is ∙ ap (size_or_none c.args.register.span) x.told.what)) c.index_scale.ensures.told))

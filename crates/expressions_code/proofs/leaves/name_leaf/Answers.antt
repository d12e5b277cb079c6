-- `expressions_code::leaves::name_leaf` meets its contract.
-- Assumes nothing.
use Rattle.expressions_code.proofs.leaves.Returns.{name_reserved, name_read}
use Rattle.expressions_code.proofs.leaves.name_leaf.Goals as goal

pub returns-then-is_reserved_name-clause-told : goal.returns-then-is_reserved_name-clause-told
returns-then-is_reserved_name-clause-told c =
    name_reserved _ c.is_reserved_name.ensures c.text_of.ensures c.if-is_reserved_name.true c.from-span.ensures c.plain.ensures c.report.ensures.told

pub returns-clause-told : goal.returns-clause-told
returns-clause-told c =
    name_read _ c.is_reserved_name.ensures c.text_of.ensures c.if-is_reserved_name.false c.from-span.ensures c.symbol_leaf.ensures

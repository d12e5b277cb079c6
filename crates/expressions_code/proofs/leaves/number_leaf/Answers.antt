-- `expressions_code::leaves::number_leaf` meets its contract.
-- Assumes nothing.
use Rattle.expressions_code.proofs.leaves.Returns.{number_read}
use Rattle.expressions_code.proofs.leaves.number_leaf.Goals as goal

pub returns-clause-told : goal.returns-clause-told
returns-clause-told c =
    number_read _ _ c.requires.seen c.number_value-value.ensures.told c.from.ensures c.read_leaf.ensures

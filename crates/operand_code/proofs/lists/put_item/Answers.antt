-- `operand_code::lists::put_item` meets its contract.
-- Assumes nothing.
use mathlib.Core.Path.{refl}
use Rattle.expressions_code.specs.Terms.{node_told}
use Rattle.operand_code.proofs.lists.Ranges.{item_numbers}
use Rattle.operand_code.proofs.lists.put_item.Goals as goal

pub returns : goal.returns
returns c =
    node_told _ (item_numbers c.args.item c.from.ensures refl c.from-2.ensures c.from-3.ensures refl c.packed.ensures c.packed-2.ensures refl) c.requires c.put_counted.ensures.put c.put_counted.ensures.counted

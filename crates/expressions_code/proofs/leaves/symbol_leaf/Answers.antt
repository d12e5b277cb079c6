-- `expressions_code::leaves::symbol_leaf` meets its contract.
-- Assumes nothing.
use Rattle.expressions_code.proofs.leaves.symbol_leaf.Goals as goal

pub returns : goal.returns
returns c =
    let w = c.packed.ensures in (rw (← w.0) c.read_leaf.ensures, w.1, w.2)

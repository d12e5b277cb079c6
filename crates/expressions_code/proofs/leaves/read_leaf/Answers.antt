-- `expressions_code::leaves::read_leaf` meets its contract.
-- Assumes nothing.
use mathlib.Core.Path.{refl}
use Rattle.expressions_code.specs.Terms.{node_told}
use Rattle.expressions_code.proofs.leaves.read_leaf.Goals as goal

pub returns : goal.returns
returns c =
    let h = node_told _ (rw c.from.ensures refl) c.requires c.put_counted.ensures.put c.put_counted.ensures.counted in
    record { what = refl; at = h.at; end = h.end; seen = h.seen; put = h.put }

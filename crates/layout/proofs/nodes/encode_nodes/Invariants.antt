-- `layout::nodes::encode_nodes` meets its contract. The loop's invariant: the first i records are written over the zeros.
-- Assumes nothing.
use Rattle.std.proofs.Common.{◌≡◌}
use Rattle.records.specs.Stores.{written}
use Rattle.operand.specs.Layout.{node_bytes}
use Rattle.layout.proofs.nodes.encode_nodes.Given as goal

abbrev pub invariant-loop-i : goal.invariant-loop-i
invariant-loop-i l = l.nodes ≡ written l.initial.nodes 0 (node_bytes l.layout l.numbers l.i)

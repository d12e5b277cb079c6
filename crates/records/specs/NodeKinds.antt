-- The kinds of nodes.
-- Assumes nothing.
use Rattle.std.specs.Prelude.{ℕ}
use Rattle.records.specs.declared.node_kinds.NodeKind.{NodeKind}

-- the number of each
abbrev pub number : NodeKind → ℕ
number NodeKind.Number = 1
number NodeKind.Literal = 2
number NodeKind.Symbol = 3
number NodeKind.CurrentAddress = 4
number NodeKind.Unary = 5
number NodeKind.Binary = 6
number NodeKind.Single = 7
number NodeKind.Range = 8

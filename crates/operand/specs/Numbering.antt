-- The numbers of nodes: a child's is below its parent's, and all are below the nodes used. So in a valid input each is written whole (`Layouts.number_read`).
-- Assumes nothing.
use Rattle.std.specs.Prelude.{ℕ, ◌+◌, ◌-◌, ◌<◌, Option, Some, None}
use Rattle.expressions.specs.Trees.{Expr, number, character_literal, symbol, current_address, unary, binary, size}
use Rattle.operand.specs.Operands.{Operand}
use Rattle.operand.specs.Forms.{record_of}
use Rattle.operand.specs.declared.forms.OperandRecord.{OperandRecord}
use Rattle.operand.specs.declared.forms.Sized.{Sized}

-- ---- within a tree

-- every child of a tree whose first node has the number b is below m
unfoldable pub ChildrenIn : ℕ → ℕ → Expr → Type 0
ChildrenIn m b (number v w s) = Unit {0}
ChildrenIn m b (character_literal q o s) = Unit {0}
ChildrenIn m b (symbol o s) = Unit {0}
ChildrenIn m b (current_address s) = Unit {0}
ChildrenIn m b (unary o e s) = ChildrenIn m b e × (b + size e - 1 < m)
ChildrenIn m b (binary o l r s) = ChildrenIn m b l × ChildrenIn m (b + size l) r × (b + size l - 1 < m) × (b + size l + size r - 1 < m)

-- ---- in the operand's record

unfoldable pub NodeIn : ℕ → Option Sized → Type 0
NodeIn m (Some d) = d.node < m
NodeIn m None = Unit {0}

abbrev pub NodesIn : ℕ → OperandRecord → Type 0
NodesIn m r = NodeIn m r.displacement × NodeIn m r.outer

abbrev pub AnswerIn : ℕ → Option Operand → Type 0
AnswerIn m (Some x) = NodesIn m (record_of x)
AnswerIn m None = Unit {0}

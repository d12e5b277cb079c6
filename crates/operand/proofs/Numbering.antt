-- The numbers of nodes: a child's is below its parent's, and all are below the nodes used. So in a valid input each is written whole (`Layouts.number_read`).
-- Assumes nothing.
use Rattle.std.specs.Prelude.{ℕ, ◌+◌, ◌<◌, ◌≤◌, Option, Some, None}
use Rattle.std.proofs.Common.{arith}
use Rattle.expressions.specs.Trees.{Expr, number, character_literal, symbol, current_address, unary, binary, size}
use Rattle.expressions.proofs.Costs.{size_pos}
use Rattle.operand.specs.Operands.{Displacement, displaced, undisplaced, Operand}
use Rattle.operand.specs.Operands as O
use Rattle.operand.specs.Records.{size_d, size_o, size_m}
use Rattle.operand.specs.Forms.{sized_of, record_of}
use Rattle.operand.specs.declared.layouts.Layout.{Layout}
use Rattle.operand.specs.Layouts.{most_tokens}
use Rattle.operand.specs.Entry.{Input, reading_at}
use Rattle.operand.specs.Conditions.{Valid}
use Rattle.operand.proofs.Conditions.{valid_bounds, valid_limit, nodes_bound, cursor_bounds}
use Rattle.operand.specs.Numbering.{ChildrenIn, NodeIn, NodesIn, AnswerIn}

pub children_in : (m b : ℕ) (e : Expr) → b + size e ≤ m → ChildrenIn m b e
unfolding ChildrenIn size
children_in m b (number v w s) h = tt
children_in m b (character_literal q o s) h = tt
children_in m b (symbol o s) h = tt
children_in m b (current_address s) h = tt
children_in m b (unary o e s) h = (children_in m b e (omega arith), omega arith)
children_in m b (binary o l r s) h = (children_in m b l (omega arith), children_in m (b + size l) r (omega arith), omega arith, omega arith)

sized_in : (m b : ℕ) (d : Displacement) → b + size_d d ≤ m → NodeIn m (sized_of b d)
unfolding NodeIn sized_of size_d
sized_in m b (displaced e n) h = omega (arith, size_pos e)
sized_in m b undisplaced h = tt

-- a list's node is the first
pub record_in : (m : ℕ) (x : Operand) → 0 < m → size_o x ≤ m → NodesIn m (record_of x)
unfolding record_of size_o NodeIn size_d
record_in m (O.immediate e l s) z h = (sized_in m 0 (displaced e 0) (omega arith), tt)
record_in m (O.data_register_direct r s) z h = (tt, tt)
record_in m (O.address_register_direct r s) z h = (tt, tt)
record_in m (O.special_register n s) z h = (tt, tt)
record_in m (O.indirect r s) z h = (tt, tt)
record_in m (O.postincrement r s) z h = (tt, tt)
record_in m (O.predecrement r s) z h = (tt, tt)
record_in m (O.displacement e r s) z h = (sized_in m 0 (displaced e 0) (omega arith), tt)
record_in m (O.index d r x s) z h = (sized_in m 0 d (omega arith), tt)
record_in m (O.pc_displacement e s) z h = (sized_in m 0 (displaced e 0) (omega arith), tt)
record_in m (O.pc_index d x s) z h = (sized_in m 0 d (omega arith), tt)
record_in m (O.full_index d b x n e s) z h = (sized_in m 0 d (omega arith), sized_in m (size_d d) e h)
record_in m (O.absolute e n s) z h = (sized_in m 0 (displaced e n) (omega arith), tt)
record_in m (O.register_list items s) z h = (z, tt)

-- ---- the law

some_tokens : (w : Layout) → 0 < most_tokens w
unfolding most_tokens
some_tokens Layout.Narrow = omega arith
some_tokens Layout.Wide = omega arith

-- below the most tokens, so that none is taken for an absent one either
pub numbers_written : (a : Input) → Valid a → AnswerIn (most_tokens a.layout) (reading_at a).value
unfolding size_m
numbers_written a v = let lim = (valid_limit a v).0 in go (reading_at a).value (omega (arith, nodes_bound a lim, (cursor_bounds a lim v).1, (valid_bounds a v).0))
  where
    go : (z : Option Operand) → size_m z ≤ most_tokens a.layout → AnswerIn (most_tokens a.layout) z
    go (Some x) h = record_in _ x (some_tokens a.layout) h
    go None h = tt

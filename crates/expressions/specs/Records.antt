-- Node records: ten numbers a node, in the order in which the nodes are finished, so that a tree's root is its last record.
-- Assumes nothing.
use Rattle.std.specs.Prelude.{◌≡◌, refl, List, ◌++◌, ℕ, ◌+◌, ◌-◌, ◌*◌, length}
use Rattle.std.proofs.Common.{arith, length-append}
use Rattle.records.specs.Nodes.{words, absent, node_record, zeros, own}
use Rattle.expressions.specs.Trees.{Expr, number, character_literal, symbol, current_address, unary, binary, size}

-- the records of a tree, the first of which has the number b
unfoldable pub nodes : ℕ → Expr → List ℕ
nodes b (number base v s) = node_record 1 base absent absent s (words 4 v)
nodes b (character_literal q w s) = node_record 2 q absent absent s (own w)
nodes b (symbol w s) = node_record 3 0 absent absent s (own w)
nodes b (current_address s) = node_record 4 0 absent absent s zeros
nodes b (unary o e s) = nodes b e ++ node_record 5 o (b + size e - 1) absent s zeros
nodes b (binary o l r s) = nodes b l ++ (nodes (b + size l) r ++ node_record 6 o (b + size l - 1) (b + size l + size r - 1) s zeros)

pub length_nodes : (b : ℕ) (e : Expr) → length (nodes b e) ≡ 10 * size e
unfolding nodes size words
length_nodes b (number base v s) = refl
length_nodes b (character_literal q w s) = refl
length_nodes b (symbol w s) = refl
length_nodes b (current_address s) = refl
length_nodes b (unary o e s) = simp length-append (omega (arith, length_nodes b e))
length_nodes b (binary o l r s) = simp length-append (omega (arith, length_nodes b l, length_nodes (b + size l) r))

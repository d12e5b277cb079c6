-- Expression trees, as the Rust has them.
-- Assumes nothing.
use Rattle.std.specs.Prelude.{ℕ, ◌+◌}
use Rattle.records.specs.declared.spans.Span.{Span}

-- `Expr`. The last span is the node's, which a group widens; a literal and a symbol keep their own span, the first, as well.
-- number: base and value. literal: quote. unary, binary: the operator, in the order of `UnaryOperator` and `BinaryOperator`
pub data Expr : Type 0 where
  number : ℕ → ℕ → Span → Expr
  character_literal : ℕ → Span → Span → Expr
  symbol : Span → Span → Expr
  current_address : Span → Expr
  unary : ℕ → Expr → Span → Expr
  binary : ℕ → Expr → Expr → Span → Expr

unfoldable pub span_e : Expr → Span
span_e (number b v s) = s
span_e (character_literal q w s) = s
span_e (symbol w s) = s
span_e (current_address s) = s
span_e (unary o e s) = s
span_e (binary o l r s) = s

-- `with_span`: the same tree, with another span at its root
unfoldable pub with_span : Expr → Span → Expr
with_span (number b v s) t = number b v t
with_span (character_literal q w s) t = character_literal q w t
with_span (symbol w s) t = symbol w t
with_span (current_address s) t = current_address t
with_span (unary o e s) t = unary o e t
with_span (binary o l r s) t = binary o l r t

-- the number of a tree's nodes
unfoldable pub size : Expr → ℕ
size (number b v s) = 1
size (character_literal q w s) = 1
size (symbol w s) = 1
size (current_address s) = 1
size (unary o e s) = size e + 1
size (binary o l r s) = size l + size r + 1

-- parse_prefix, parse_expression and parse_expression_from, which call each other.
-- Assumes nothing.
use Rattle.std.specs.Prelude.{ℕ, zero, suc, ◌+◌}
use Rattle.names.specs.Kinds
use Rattle.names.specs.declared.tokens.Token.{Token}
use Rattle.records.specs.Spans.{span, no_span, empty, span_of}
use Rattle.expressions.specs.Trees.{Expr, unary, binary, span_e, with_span}
use Rattle.records.specs.Diagnostics.{unclosed_parenthesis, nesting_too_deep, expression_expected, plus_is_not_a_unary_operator}
use Rattle.expressions.specs.Reader.{is, any, Reader, answer, here, raise, bump, peek, ◌>>=◌}
use Rattle.expressions.specs.Expressions.Levels.{precedence, binary_operator, operator, is_unary, unary_operator}
use Rattle.expressions.specs.Expressions.Leaves.{Term, read, reported, absent, leaf_term}

-- ---- parse_expression_from

-- what follows the operator k, once a term has been read after it
unfoldable pub operated : (ℕ → Expr → Reader Expr) → ℕ → Expr → Token → Term → Reader Expr
operated again min left k (read right) =
    again (precedence k.kind + 1) right >>= λ e.
    again min (binary (binary_operator k.kind) left e (span (span_e left).start (span_e e).end))
operated again min left k reported = answer left
operated again min left k absent = raise (expression_expected (span_of k)) (answer left)

-- `{ binary_operator term }` behind the term left, by levels. fuel: the tokens left, or more. prefix: a term
unfoldable pub parse_expression_from : ℕ → Reader Term → ℕ → Expr → Reader Expr
parse_expression_from zero prefix min left = answer left
parse_expression_from (suc fuel) prefix min left =
    bump (operator min) (λ k x. prefix >>= operated (parse_expression_from fuel prefix) min left k) λ u. answer left

-- ---- parse_expression

unfoldable pub climbed : ℕ → Reader Term → Term → Reader Term
climbed fuel prefix (read left) = parse_expression_from fuel prefix 1 left >>= λ e. answer (read e)
climbed fuel prefix reported = answer reported
climbed fuel prefix absent = answer absent

-- `expression = term { binary_operator term }`
unfoldable pub parse_expression_of : ℕ → Reader Term → Reader Term
parse_expression_of fuel prefix = prefix >>= climbed fuel prefix

-- ---- parse_prefix_term

unfoldable pub negated : Token → Term → Reader Term
negated k (read e) = answer (read (unary (unary_operator k.kind) e (span k.start (span_e e).end)))
negated k reported = answer reported
negated k absent = raise (expression_expected (span_of k)) (answer reported)

unfoldable pub plussed : Token → Term → Reader Term
plussed k (read e) = raise (plus_is_not_a_unary_operator (span_of k) (span_e e)) (answer (read e))
plussed k reported = raise (plus_is_not_a_unary_operator (span_of k) no_span) (answer reported)
plussed k absent = raise (plus_is_not_a_unary_operator (span_of k) no_span) (answer reported)

-- `")"` behind `"(" expression`
unfoldable pub grouped : Token → Term → Reader Term
grouped k (read e) =
    bump (is Kinds.right_paren) (λ close x. answer (read (with_span e (span k.start close.end)))) λ u.
    raise (unclosed_parenthesis (span_of k)) (answer reported)
grouped k reported = answer reported
grouped k absent = raise (expression_expected (span_of k)) (answer reported)

-- `term = ( "-" | "~" ) term | "(" expression ")" | leaf`; a plus before a term is told. prefix: a term one level down. The kinds exclude each other, so that the order of the tests is free
unfoldable pub parse_prefix_term : ℕ → Reader Term → Reader Term
parse_prefix_term fuel prefix =
    bump is_unary (λ k x. prefix >>= negated k) λ u.
    bump (is Kinds.plus) (λ k x. prefix >>= plussed k) λ u.
    bump (is Kinds.left_paren) (λ k x. parse_expression_of fuel prefix >>= grouped k) λ u.
    leaf_term

-- ---- parse_prefix

-- the depth is tested before the token is looked at
unfoldable pub too_deep : Reader Term
too_deep =
    here λ i l.
    peek 0 any (λ k x. raise (nesting_too_deep (span_of k)) (answer reported)) λ u.
    raise (nesting_too_deep (empty l)) (answer reported)

-- room: how many terms may still be opened
unfoldable pub parse_prefix : ℕ → ℕ → Reader Term
parse_prefix fuel zero = too_deep
parse_prefix fuel (suc room) = parse_prefix_term fuel (parse_prefix fuel room)

-- How an expression is read: the functions of parser.rs, under their names. A letter means one thing: k, x: a token that is stepped over or looked at, and its text;
-- u: nothing, which a test that fails hands on; i, l: the cursor, and the end of the last token; e: an expression; v: a number's value.
-- Assumes nothing.
pub mod Suffixes
pub mod Levels
pub mod Leaves
pub mod Terms
use Rattle.std.specs.Prelude.{ℕ}
use Rattle.expressions.specs.Trees.{Expr}
use Rattle.expressions.specs.Reader.{Reader}
pub use Suffixes.{Suffix, suffixed, bare}
unfoldable pub use Suffixes.{known, suffix_run, take_size_suffix}
unfoldable pub use Levels.{precedence, binary_operator, operator, is_unary, unary_operator}
pub use Leaves.{Term, read, reported, absent}
unfoldable pub use Leaves.{valued, named, number_term, leaf_term}
unfoldable pub use Terms.{operated, parse_expression_from, climbed, parse_expression_of, negated, plussed, grouped, parse_prefix_term, too_deep, parse_prefix}

-- fuel for every climb: more turns than the longest list has tokens. Shut, so that nothing computes it
unfoldable pub fuel : ℕ
fuel = 1023

unfoldable pub parse_expression : ℕ → Reader Term
parse_expression room = parse_expression_of fuel (parse_prefix fuel room)

unfoldable pub expression_from : ℕ → Expr → Reader Expr
expression_from room left = parse_expression_from fuel (parse_prefix fuel room) 1 left

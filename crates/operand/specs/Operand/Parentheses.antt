-- parse_parenthesised_operand.
-- Assumes nothing.
use Rattle.std.specs.Prelude.{ℕ, eqb, Option, None}
use Rattle.names.specs.Choice.{either}
use Rattle.names.specs.Kinds
use Rattle.names.specs.declared.tokens.Token.{Token}
use Rattle.records.specs.Spans.{span, span_of}
use Rattle.expressions.specs.Trees.{Expr, span_e, with_span}
use Rattle.expressions.specs.declared.reading.Setting.{Setting}
use Rattle.records.specs.Diagnostics.{unclosed_parenthesis, unexpected_token_in_operand, expression_expected}
use Rattle.expressions.specs.Reader.{is, any, Reader, answer, raise, bump, peek, ◌>>=◌}
use Rattle.expressions.specs.Expressions.{Suffix, suffixed, bare, take_size_suffix, expression_from}
use Rattle.operand.specs.Operands.{Displacement, displaced, undisplaced, Operand}
use Rattle.operand.specs.Operand.Tries.{expression_or}
use Rattle.operand.specs.Operand.Lookahead.{a_register, a_program_counter}
use Rattle.operand.specs.Operand.Malformed.{over}
use Rattle.operand.specs.Operand.Bases.{parse_base_and_index}
use Rattle.operand.specs.Operand.Full.{starts_a_full_index, parse_full_index}
use Rattle.operand.specs.Operand.Memory.{parse_memory_indirect}
use Rattle.operand.specs.Operand.Absolutes.{finish_expression_operand, displacement_tail}

-- the group from the parenthesis up to l is the first term of an absolute address
abbrev pub grouped_expression : Setting → Token → ℕ → Expr → Reader (Option Operand)
grouped_expression s paren l e = expression_from s.limit (with_span e (span paren.start l)) >>= finish_expression_operand s

-- the parenthesis closed at l behind an expression: a displacement, or a group that goes on
abbrev pub grouped_operand : Setting → Token → ℕ → Expr → Reader (Option Operand)
grouped_operand s paren l e = displacement_tail s e λ u. grouped_expression s paren l e

-- the comma behind the size has been seen
unfoldable pub sized_base : Setting → Token → Expr → Suffix → Reader (Option Operand)
sized_base s paren e bare = over (parse_full_index s paren (displaced e 0))
sized_base s paren e (suffixed size z) = over (parse_full_index s paren (displaced e size))

-- an Error token has been reported by the lexer
unfoldable pub unexpected : Token → Reader (Option Operand)
unexpected paren =
    peek 0 (is Kinds.error) (λ k x. answer None) λ u.
    peek 0 any (λ k x. raise (unexpected_token_in_operand (span_of k)) (answer None)) λ u.
    raise (unclosed_parenthesis (span_of paren)) (answer None)

-- behind a comma
abbrev pub after_comma : Setting → Token → Displacement → Reader (Option Operand)
after_comma s paren d = starts_a_full_index s (λ u. parse_full_index s paren d) λ u. parse_base_and_index s paren d

-- at a size, where a comma must follow
abbrev pub size_and_base : Setting → Token → Expr → Reader (Option Operand)
size_and_base s paren e = peek 1 (is Kinds.comma) (λ k x. take_size_suffix (span_e e).start >>= sized_base s paren e) λ u. unexpected paren

-- behind the expression: `"," base …`, `")"` and what it closes, or `size_suffix "," base …`
unfoldable pub after_expression : Setting → Token → Expr → Reader (Option Operand)
after_expression s paren e =
    bump (is Kinds.comma) (λ comma x. after_comma s paren (displaced e 0)) λ u.
    bump (is Kinds.right_paren) (λ close x. grouped_operand s paren close.end e) λ u.
    peek 0 (is Kinds.size_suffix) (λ k x. size_and_base s paren e) λ u.
    unexpected paren

-- `expression` behind the parenthesis, and what follows it
unfoldable pub parenthesised : Setting → Token → Reader (Option Operand)
parenthesised s paren = expression_or s (raise (expression_expected (span_of paren)) (answer None)) (after_expression s paren)

-- a register or the program counter, and then a parenthesis, a comma or the end
unfoldable pub starts_a_base : {A : Type 0} → (Unit {0} → Reader A) → (Unit {0} → Reader A) → Reader A
starts_a_base hit miss =
    peek 0 (λ k x. either (a_register k x) (a_program_counter k x))
    (λ k x. peek 1 any (λ t y. peek 1 (λ t y. either (eqb t.kind Kinds.right_paren) (eqb t.kind Kinds.comma)) (λ t y. hit tt) miss) hit)
    miss

-- behind a parenthesis that no bracket follows
abbrev pub unbracketed : Setting → Token → Reader (Option Operand)
unbracketed s paren =
    starts_a_full_index s (λ u. parse_full_index s paren undisplaced) λ u.
    starts_a_base (λ u. parse_base_and_index s paren undisplaced) λ u.
    parenthesised s paren

-- `parenthesised_operand`: what an operand that starts with a parenthesis is, behind it
unfoldable pub parse_parenthesised_operand : Setting → Token → Reader (Option Operand)
parse_parenthesised_operand s paren =
    bump (is Kinds.left_bracket) (λ k x. parse_memory_indirect s paren) λ u.
    unbracketed s paren

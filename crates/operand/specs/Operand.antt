-- How an operand is read: the functions of parser.rs that `parse_operand` reaches, under their names. Above each production stands its rule, as in parser.rs.
-- A letter means one thing in all of these files. s: the setting. k, x: a token that is stepped over or looked at, and its text; t, y: a second one's.
-- u: nothing, which a test that fails hands on. i, l: the cursor (in Lookahead a place), and the end of the last token. e: an expression. d: a displacement.
-- r, q: registers. v: a number's value. z: a span. f, p: a function, a reader. What else there is has a word: minus, paren, close, shape, problem, size, index, end.
-- Assumes nothing.
pub mod Tries
pub mod Lookahead
pub mod Malformed
pub mod Immediates
pub mod Lists
pub mod Indexes
pub mod Bases
pub mod Full
pub mod Memory
pub mod Absolutes
pub mod Parentheses
use Rattle.std.specs.Prelude.{List, ℕ, eqb, leb, Option, Some, None}
use Rattle.names.specs.Choice.{pick, either}
use Rattle.names.specs.Kinds
use Rattle.names.specs.Places.{Place}
use Rattle.names.specs.Registers.{special_of}
use Rattle.names.specs.Reserved.{is_special}
use Rattle.names.specs.Cases.{special_number}
use Rattle.names.specs.declared.tokens.Token.{Token}
use Rattle.names.specs.declared.registers.SpecialRegister.{SpecialRegister}
use Rattle.records.specs.Shapes
use Rattle.records.specs.Spans.{span, span_of}
use Rattle.records.specs.declared.spans.Span.{Span}
use Rattle.expressions.specs.declared.reading.Setting.{Setting}
use Rattle.records.specs.Diagnostics.{operand_expected}
use Rattle.expressions.specs.Reader.{is, any, Reading, Reader, answer, raise, bump, peek, run, choose}
use Rattle.operand.specs.Operands.{Operand}
use Rattle.operand.specs.declared.forms.Register.{Register}
use Rattle.operand.specs.Operands as O
unfoldable pub use Tries.{or_none, ◌>>=?◌, or_absent, expression_or}
unfoldable pub use Lookahead.{is_address, is_suppressed, is_suppressed_register, is_suppressed_address, name, a_register, an_address_register, a_program_counter, unmarked, an_index, a_base_or_an_index, index_of, suppressed_index, register_from}
unfoldable pub use Malformed.{malformed, unclosed, stepped_over, not_an_address_register, expect_close, over}
unfoldable pub use Immediates.{immediate_size, sized_immediate, parse_immediate}
unfoldable pub use Lists.{register_expected, ranged, list_item, listed, next_item, list_loop, parse_register_list}
unfoldable pub use Indexes.{scale_of, with_scale, scaled, scale_value, index_scale, index_size, index_register, parse_index_register}
unfoldable pub use Bases.{base_shape, indexed_operand, close_index, base_and_index, closed_base, after_base, closed_counter, after_counter, parse_base_and_index}
unfoldable pub use Full.{registers, with_index, comma_and_index, after_base_register, size_or_scale, no_base, parse_base_and_index_registers, closes, starts_a_full_index, parse_full_index}
pub use Memory.{Inner, Outer}
unfoldable pub use Memory.{sized, parse_sized_displacement, inner, no_registers, with_registers, inner_displaced, inner_displacement, parse_inner, outer, outer_displacement, outer_indexed, outer_index, parse_outer, close_indirect, after_inner, parse_memory_indirect}
unfoldable pub use Absolutes.{absolute_size, finish_expression_operand, displacement_tail, displaced_or_absolute, no_expression, parse_expression_operand}
unfoldable pub use Parentheses.{grouped_expression, grouped_operand, sized_base, unexpected, after_comma, size_and_base, after_expression, parenthesised, starts_a_base, unbracketed, parse_parenthesised_operand}

-- ---- parse_predecrement

-- `")"` behind the register r, whose token is k
unfoldable pub predecrement_close : Setting → Token → Token → Token → Register → Reader (Option Operand)
predecrement_close s minus paren k r =
    choose (leb 8 r.index) (expect_close s paren Shapes.predecrement >>=? λ end. answer (Some (O.predecrement r (span minus.start end))))
    (not_an_address_register s Shapes.predecrement k)

-- `predecrement = "-" "(" address_register ")"`, at the minus
unfoldable pub parse_predecrement : Setting → Token → Token → Token → List ℕ → Reader (Option Operand)
parse_predecrement s minus paren k x = over (over (over (predecrement_close s minus paren k (register_from k x))))

-- ---- parse_register_operand

unfoldable pub register_direct : Register → Span → Operand
register_direct r z = pick (leb 8 r.index) (O.address_register_direct r z) (O.data_register_direct r z)

-- a lone register r, or the first item of a register list where a `-` or a `/` follows it
unfoldable pub parse_register_operand : Setting → Register → Reader (Option Operand)
parse_register_operand s r =
    peek 0 (λ k x. either (eqb k.kind Kinds.minus) (eqb k.kind Kinds.slash)) (λ k x. parse_register_list s r) λ u.
    answer (Some (register_direct r r.span))

-- ---- parse_operand

unfoldable pub special_index : Option SpecialRegister → ℕ
special_index special = special_number special

-- a register or a list of them, a special register, or an expression
unfoldable pub name_or_expression : Setting → Reader (Option Operand)
name_or_expression s =
    bump a_register (λ k x. parse_register_operand s (register_from k x)) λ u.
    bump (name λ x. is_special (special_of x)) (λ k x. answer (Some (O.special_register (special_index (special_of x)) (span_of k)))) λ u.
    parse_expression_operand s

-- `looks_like_predecrement`: a predecrement where a parenthesis and a register follow the minus
unfoldable pub minus_operand : Setting → Token → Reader (Option Operand)
minus_operand s minus =
    peek 1 (is Kinds.left_paren)
    (λ paren x. peek 2 a_register (λ k x. parse_predecrement s minus paren k x) λ u. parse_expression_operand s) λ u.
    parse_expression_operand s

-- `operand`: one operand, whatever it turns out to be
unfoldable pub operand_from : Setting → Reader (Option Operand)
operand_from s =
    peek 0 (is Kinds.comma) (λ k x. raise (operand_expected (span_of k)) (answer None)) λ u.
    bump (is Kinds.hash) (λ hash x. parse_immediate s hash) λ u.
    bump (is Kinds.left_paren) (λ paren x. parse_parenthesised_operand s paren) λ u.
    peek 0 (is Kinds.minus) (λ minus x. minus_operand s minus) λ u.
    name_or_expression s

-- the start is known once the first token is seen
abbrev pub setting_from : ℕ → ℕ → Token → Setting
setting_from limit mark k = record { limit = limit; mark = mark; start = k.start }

-- at a nesting limit and a symbol mark
unfoldable pub parse_operand : ℕ → ℕ → Reader (Option Operand)
parse_operand limit mark = peek 0 any (λ k x. operand_from (setting_from limit mark k)) λ u. answer None

-- the reading of an operand from a place on. The end of the token before it is never read
unfoldable pub reading_of : ℕ → ℕ → (ℕ → Place) → ℕ → Reading (Option Operand)
reading_of limit mark at start = run (parse_operand limit mark) at start 0

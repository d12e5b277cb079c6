-- The kinds of diagnostics: those of the Rust's `DiagnosticKind` that `parse_operand` raises, from 1 in the enum's order.
-- Assumes nothing.
use Rattle.std.specs.Prelude.{ℕ}
use Rattle.records.specs.declared.diagnostic_kinds.DiagnosticKind.{DiagnosticKind}

abbrev pub number_too_large : ℕ
number_too_large = 1

abbrev pub unknown_size_suffix : ℕ
unknown_size_suffix = 2

abbrev pub dot_in_name : ℕ
dot_in_name = 3

abbrev pub operand_expected : ℕ
operand_expected = 4

abbrev pub unclosed_parenthesis : ℕ
unclosed_parenthesis = 5

abbrev pub nesting_too_deep : ℕ
nesting_too_deep = 6

abbrev pub malformed_operand : ℕ
malformed_operand = 7

abbrev pub unexpected_token_in_operand : ℕ
unexpected_token_in_operand = 8

abbrev pub register_expected_in_register_list : ℕ
register_expected_in_register_list = 9

abbrev pub register_range_out_of_order : ℕ
register_range_out_of_order = 10

abbrev pub register_in_expression : ℕ
register_in_expression = 11

abbrev pub expression_expected : ℕ
expression_expected = 12

abbrev pub plus_is_not_a_unary_operator : ℕ
plus_is_not_a_unary_operator = 13

-- the number of each
abbrev pub number : DiagnosticKind → ℕ
number DiagnosticKind.NumberTooLarge = number_too_large
number DiagnosticKind.UnknownSizeSuffix = unknown_size_suffix
number DiagnosticKind.DotInName = dot_in_name
number DiagnosticKind.OperandExpected = operand_expected
number DiagnosticKind.UnclosedParenthesis = unclosed_parenthesis
number DiagnosticKind.NestingTooDeep = nesting_too_deep
number DiagnosticKind.MalformedOperand = malformed_operand
number DiagnosticKind.UnexpectedTokenInOperand = unexpected_token_in_operand
number DiagnosticKind.RegisterExpectedInRegisterList = register_expected_in_register_list
number DiagnosticKind.RegisterRangeOutOfOrder = register_range_out_of_order
number DiagnosticKind.RegisterInExpression = register_in_expression
number DiagnosticKind.ExpressionExpected = expression_expected
number DiagnosticKind.PlusIsNotAUnaryOperator = plus_is_not_a_unary_operator

-- Diagnostics: ten numbers, and a name for each kind that `parse_operand` raises.
-- Assumes nothing.
use Rattle.std.specs.Prelude.{List, [], ◌∷◌, ℕ, ◌+◌, ltb}
use Rattle.names.specs.Choice.{pick}
use Rattle.records.specs.DiagnosticKinds
use Rattle.records.specs.Shapes
use Rattle.records.specs.Problems
use Rattle.records.specs.Spans.{span, empty, no_span}
use Rattle.records.specs.declared.spans.Span.{Span}
use Rattle.records.specs.declared.diagnostics.Diagnostic.{Diagnostic}

-- its fields are the code's. text: what the message quotes, or two registers. related: a span that it points at, if `has_related` is 1
abbrev pub diagnostic : ℕ → ℕ → ℕ → Span → Span → Diagnostic
diagnostic kind shape problem span text =
    record { kind = kind; shape = shape; problem = problem; span = span; text = text; related = no_span; has_related = 0 }

-- a kind with no shape and no problem
abbrev pub plain : ℕ → Span → Span → Diagnostic
plain kind span text = diagnostic kind Shapes.no_shape Problems.no_problem span text

-- they quote their token
abbrev pub number_too_large : Span → Diagnostic
number_too_large s = plain DiagnosticKinds.number_too_large s s

-- where a suffix's run begins: behind its first byte, if it has one
abbrev pub run_start : Span → ℕ
run_start s = pick (ltb s.start s.end) (s.start + 1) s.end

-- the suffix, and its run
abbrev pub unknown_size_suffix : Span → Diagnostic
unknown_size_suffix s = plain DiagnosticKinds.unknown_size_suffix s (span (run_start s) s.end)

-- the suffix, and the name with it, from where that begins
abbrev pub dot_in_name : Span → ℕ → Diagnostic
dot_in_name s from = plain DiagnosticKinds.dot_in_name s (span from s.end)

abbrev pub operand_expected : Span → Diagnostic
operand_expected s = plain DiagnosticKinds.operand_expected s no_span

abbrev pub unclosed_parenthesis : Span → Diagnostic
unclosed_parenthesis s = plain DiagnosticKinds.unclosed_parenthesis s no_span

abbrev pub nesting_too_deep : Span → Diagnostic
nesting_too_deep s = plain DiagnosticKinds.nesting_too_deep s no_span

-- by the shape and the problem's number; the text is the token that problem 2 quotes
abbrev pub malformed_operand : ℕ → ℕ → Span → Span → Diagnostic
malformed_operand shape problem s text = diagnostic DiagnosticKinds.malformed_operand shape problem s text

-- the same, with the parenthesis that is never closed
abbrev pub malformed_open : ℕ → ℕ → Span → Span → Diagnostic
malformed_open shape problem s paren = record { kind = DiagnosticKinds.malformed_operand; shape = shape; problem = problem; span = s; text = no_span; related = paren; has_related = 1 }

abbrev pub unexpected_token_in_operand : Span → Diagnostic
unexpected_token_in_operand s = plain DiagnosticKinds.unexpected_token_in_operand s s

-- the sign that the register would follow, by its ASCII code
abbrev pub register_expected_in_register_list : ℕ → Span → Diagnostic
register_expected_in_register_list after s = diagnostic DiagnosticKinds.register_expected_in_register_list Shapes.no_shape after s no_span

-- the two registers, by their mask indices
abbrev pub register_range_out_of_order : ℕ → ℕ → Span → Diagnostic
register_range_out_of_order from to s = plain DiagnosticKinds.register_range_out_of_order s (span from to)

abbrev pub register_in_expression : Span → Diagnostic
register_in_expression s = plain DiagnosticKinds.register_in_expression s s

-- the token that the expression would follow; its own span is empty, at that token's end
abbrev pub expression_expected : Span → Diagnostic
expression_expected after = plain DiagnosticKinds.expression_expected (empty after.end) after

-- the plus, and the term that was read, no span where that failed
abbrev pub plus_is_not_a_unary_operator : Span → Span → Diagnostic
plus_is_not_a_unary_operator s term = plain DiagnosticKinds.plus_is_not_a_unary_operator s term

-- its ten numbers
unfoldable pub diagnostic_record : Diagnostic → List ℕ
diagnostic_record d =
    d.kind ∷ d.shape ∷ d.problem ∷ d.span.start ∷ d.span.end ∷ d.text.start ∷ d.text.end ∷ d.related.start ∷ d.related.end ∷ d.has_related ∷ []

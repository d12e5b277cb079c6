-- What is malformed, the parenthesis that closes, and stepping over whatever stands at the cursor.
-- Assumes nothing.
use Rattle.std.specs.Prelude.{ℕ, Option, Some, None}
use Rattle.names.specs.Kinds
use Rattle.names.specs.declared.tokens.Token.{Token}
use Rattle.records.specs.Problems
use Rattle.records.specs.Spans.{span, no_span, span_of}
use Rattle.records.specs.Diagnostics.{malformed_operand, malformed_open}
use Rattle.expressions.specs.declared.reading.Setting.{Setting}
use Rattle.expressions.specs.Reader.{is, any, Reader, answer, here, raise, bump}

-- from the operand's start to where the last token ended
unfoldable pub malformed : {A : Type 0} → Setting → ℕ → ℕ → Reader (Option A)
malformed s shape problem = here λ i l. raise (malformed_operand shape problem (span s.start l) no_span) (answer None)

-- the parenthesis is never closed
unfoldable pub unclosed : {A : Type 0} → Setting → Token → ℕ → ℕ → Reader (Option A)
unclosed s paren shape problem = here λ i l. raise (malformed_open shape problem (span s.start l) (span_of paren)) (answer None)

unfoldable pub stepped_over : {A : Type 0} → Setting → ℕ → ℕ → Reader (Option A)
stepped_over s shape problem = bump any (λ k x. malformed s shape problem) λ u. malformed s shape problem

-- the token k, which is quoted, is not an address register
unfoldable pub not_an_address_register : {A : Type 0} → Setting → ℕ → Token → Reader (Option A)
not_an_address_register s shape k = here λ i l. raise (malformed_operand shape Problems.not_an_address_register (span s.start l) (span_of k)) (answer None)

-- ---- expect_close: `")"`, and where it ends

unfoldable pub expect_close : Setting → Token → ℕ → Reader (Option ℕ)
expect_close s paren shape = bump (is Kinds.right_paren) (λ close x. answer (Some close.end)) λ u. unclosed s paren shape Problems.paren_missing

-- step over the token at the cursor, which has been seen
unfoldable pub over : {A : Type 0} → Reader A → Reader A
over p = bump any (λ k x. p) λ u. p

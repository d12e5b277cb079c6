-- An expression as an operand: finish_expression_operand, parse_displacement_tail, parse_expression_operand.
-- Assumes nothing.
use Rattle.names.specs.Kinds
use Rattle.records.specs.Spans.{span, empty, span_of}
use Rattle.expressions.specs.Trees.{Expr, span_e}
use Rattle.expressions.specs.declared.reading.Setting.{Setting}
use Rattle.records.specs.Diagnostics.{operand_expected, unexpected_token_in_operand}
use Rattle.expressions.specs.Reader.{is, any, Reader, answer, raise, bump, peek, ◌>>=◌}
use Rattle.expressions.specs.Expressions.{Suffix, suffixed, bare, take_size_suffix}
use Rattle.operand.specs.Operands.{displaced, Operand}
use Rattle.operand.specs.Operands as O
use Rattle.operand.specs.Operand.Tries.{expression_or}
use Rattle.operand.specs.Operand.Bases.{parse_base_and_index}
use Rattle.std.specs.Prelude.{Option, Some, None}

-- ---- finish_expression_operand, parse_displacement_tail

unfoldable pub absolute_size : Setting → Expr → Suffix → Reader (Option Operand)
absolute_size s e bare = answer (Some (O.absolute e 0 (span s.start (span_e e).end)))
absolute_size s e (suffixed size z) = answer (Some (O.absolute e size (span s.start z.end)))

-- `absolute = expression [ size_suffix ]`, behind the expression e
unfoldable pub finish_expression_operand : Setting → Expr → Reader (Option Operand)
finish_expression_operand s e = take_size_suffix (span_e e).start >>= absolute_size s e

-- the tail `(An)`, `(An,Xn)`, `(pc)`, `(pc,Xn)` behind a displacement, or no tail
unfoldable pub displacement_tail : Setting → Expr → (Unit {0} → Reader (Option Operand)) → Reader (Option Operand)
displacement_tail s e miss = bump (is Kinds.left_paren) (λ paren x. parse_base_and_index s paren (displaced e 0)) miss

-- ---- parse_expression_operand

-- behind the expression e
abbrev pub displaced_or_absolute : Setting → Expr → Reader (Option Operand)
displaced_or_absolute s e = displacement_tail s e λ u. finish_expression_operand s e

-- no expression stands at the cursor
unfoldable pub no_expression : Setting → Reader (Option Operand)
no_expression s =
    peek 0 any (λ k x. raise (unexpected_token_in_operand (span_of k)) (answer None)) λ u.
    raise (operand_expected (empty s.start)) (answer None)

-- `absolute`, or `expression` and the tail of a displaced mode, `x(An)`
unfoldable pub parse_expression_operand : Setting → Reader (Option Operand)
parse_expression_operand s = expression_or s (no_expression s) (displaced_or_absolute s)

-- parse_immediate.
-- Assumes nothing.
use Rattle.std.specs.Prelude.{true, false, eqb, Option, Some, None}
use Rattle.names.specs.declared.tokens.Token.{Token}
use Rattle.records.specs.Problems
use Rattle.records.specs.Shapes
use Rattle.records.specs.Spans.{span, span_of}
use Rattle.expressions.specs.Trees.{Expr, span_e}
use Rattle.expressions.specs.declared.reading.Setting.{Setting}
use Rattle.records.specs.Diagnostics.{expression_expected}
use Rattle.expressions.specs.Reader.{Reader, answer, raise, ◌>>=◌, choose}
use Rattle.expressions.specs.Expressions.{Suffix, suffixed, bare, take_size_suffix}
use Rattle.operand.specs.Operands.{Operand}
use Rattle.operand.specs.Operands as O
use Rattle.operand.specs.Operand.Tries.{expression_or}
use Rattle.operand.specs.Operand.Malformed.{malformed}

-- a size of 3 is long, the one that an immediate may have; 0 is one that is not known
unfoldable pub immediate_size : Setting → Token → Expr → Suffix → Reader (Option Operand)
immediate_size s hash e bare = answer (Some (O.immediate e false (span hash.start (span_e e).end)))
immediate_size s hash e (suffixed size z) =
    choose (eqb size 3) (answer (Some (O.immediate e true (span hash.start z.end))))
    (choose (eqb size 0) (answer (Some (O.immediate e false (span hash.start z.end)))) (malformed s Shapes.immediate Problems.immediate_carries_no_size))

-- behind the value e: `[ ".l" ]`
abbrev pub sized_immediate : Setting → Token → Expr → Reader (Option Operand)
sized_immediate s hash e = take_size_suffix (span_e e).start >>= immediate_size s hash e

-- `immediate = "#" expression [ ".l" ]`, behind the hash
unfoldable pub parse_immediate : Setting → Token → Reader (Option Operand)
parse_immediate s hash = expression_or s (raise (expression_expected (span_of hash)) (answer None)) (sized_immediate s hash)

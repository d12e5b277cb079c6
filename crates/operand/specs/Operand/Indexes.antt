-- parse_index_register.
-- Assumes nothing.
use Rattle.std.specs.Prelude.{Bool, true, false, List, ℕ, eqb, Option, Some}
use Rattle.names.specs.Choice.{either}
use Rattle.names.specs.Kinds
use Rattle.names.specs.Registers.{suppressed_of}
use Rattle.names.specs.Numbers.{number_of}
use Rattle.names.specs.declared.tokens.Token.{Token}
use Rattle.records.specs.Problems
use Rattle.records.specs.Spans.{span, span_of}
use Rattle.expressions.specs.declared.reading.Setting.{Setting}
use Rattle.expressions.specs.Reader.{is, Reader, answer, here, bump, ◌>>=◌, choose}
use Rattle.expressions.specs.Expressions.{Suffix, suffixed, bare, take_size_suffix, valued}
use Rattle.operand.specs.declared.forms.Register.{Register}
use Rattle.operand.specs.declared.forms.IndexRegister.{IndexRegister}
use Rattle.operand.specs.Operand.Lookahead.{is_suppressed_register, a_register, unmarked, suppressed_index, register_from}
use Rattle.operand.specs.Operand.Malformed.{malformed, stepped_over}

unfoldable pub scale_of : ℕ → Bool
scale_of v = either (eqb v 1) (either (eqb v 2) (either (eqb v 4) (eqb v 8)))

abbrev pub with_scale : IndexRegister → ℕ → ℕ → IndexRegister
with_scale index v end = record { register = index.register; size = index.size; scale = v; suppressed = index.suppressed; span = span index.span.start end }

-- the index register, once the value v of its scale k is known
unfoldable pub scaled : Setting → ℕ → IndexRegister → Token → ℕ → Reader (Option IndexRegister)
scaled s shape index k v = choose (scale_of v) (answer (Some (with_scale index v k.end))) (malformed s shape Problems.bad_scale)

-- behind the number of a scale
abbrev pub scale_value : Setting → ℕ → IndexRegister → Token → List ℕ → Reader (Option IndexRegister)
scale_value s shape index k x = valued k (number_of k.detail x) >>= scaled s shape index k

-- `[ "*" scale ]`
unfoldable pub index_scale : Setting → ℕ → IndexRegister → Reader (Option IndexRegister)
index_scale s shape index =
    bump (is Kinds.star)
    (λ star x.
    bump (is Kinds.number) (λ k x. scale_value s shape index k x) λ u.
    stepped_over s shape Problems.bad_scale) λ u.
    answer (Some index)

unfoldable pub index_size : Setting → ℕ → Register → Bool → Suffix → Reader (Option IndexRegister)
index_size s shape r suppressed bare = index_scale s shape (record { register = r; size = 0; scale = 0; suppressed = suppressed; span = r.span })
index_size s shape r suppressed (suffixed size z) =
    index_scale s shape (record { register = r; size = size; scale = 0; suppressed = suppressed; span = span r.span.start z.end })

-- `[ size_suffix ] [ "*" scale ]`, behind the register r
unfoldable pub index_register : Setting → ℕ → Register → Bool → Reader (Option IndexRegister)
index_register s shape r suppressed = take_size_suffix r.span.start >>= index_size s shape r suppressed

-- `index_register = ( register | suppressed_index ) [ size_suffix ] [ "*" scale ]`
unfoldable pub parse_index_register : Setting → ℕ → Reader (Option IndexRegister)
parse_index_register s shape =
    here λ i l.
    bump a_register (λ k x. index_register s shape (register_from k x) false) λ u.
    bump (unmarked s i is_suppressed_register)
    (λ k x. index_register s shape (record { index = suppressed_index (suppressed_of x); span = span_of k }) true) λ u.
    stepped_over s shape Problems.index_missing

-- What stands behind the base of a parenthesis, of an address register and of the program counter alike.
-- Assumes nothing.
use Rattle.std.specs.Prelude.{List, ℕ, Option, Some, None}
use Rattle.names.specs.Choice.{pick}
use Rattle.names.specs.Kinds
use Rattle.names.specs.declared.tokens.Token.{Token}
use Rattle.expressions.specs.Reader.{Reader, bump, is}
use Rattle.expressions.specs.declared.reading.Setting.{Setting}
use Rattle.records.specs.Shapes
use Rattle.records.specs.Problems
use Rattle.records.specs.declared.spans.Span.{Span}
use Rattle.operand.specs.FormNumbers
use Rattle.operand.specs.Operands as O
use Rattle.operand.specs.Operands.{Operand, Displacement}
use Rattle.operand.specs.Operand.{an_address_register, a_program_counter, register_from, base_shape, closed_base, closed_counter, base_and_index, unclosed}
use Rattle.operand.specs.declared.forms.BaseRegister.{BaseRegister}
use Rattle.operand.specs.declared.forms.IndexRegister.{IndexRegister}
use Rattle.operand_code.specs.declared.bases.Base.{Base}

-- the base that a token is where none may be suppressed
unfoldable pub unsuppressed_base : Token → List ℕ → Option Base
unsuppressed_base t x =
    pick (an_address_register t x) (Some (Base.Address (register_from t x)))
    (pick (a_program_counter t x) (Some Base.ProgramCounter) None)

unfoldable pub base_register : Base → BaseRegister
base_register (Base.Address r) = BaseRegister.Address r
base_register Base.ProgramCounter = BaseRegister.ProgramCounter

-- the shape of an operand whose parenthesis never closes behind its base
unfoldable pub open_shape : Base → Displacement → ℕ
open_shape (Base.Address r) d = base_shape d
open_shape Base.ProgramCounter d = Shapes.pc_displacement

-- the shape and the form of an operand that has an index behind its base
unfoldable pub index_shape : Base → ℕ
index_shape (Base.Address r) = Shapes.index
index_shape Base.ProgramCounter = Shapes.pc_index

unfoldable pub index_form : Base → ℕ
index_form (Base.Address r) = FormNumbers.index
index_form Base.ProgramCounter = FormNumbers.pc_index

unfoldable pub closed : Setting → Base → Displacement → Token → Reader (Option Operand)
closed s (Base.Address r) d close = closed_base s r d close
closed s Base.ProgramCounter d close = closed_counter s d close

-- the operand that an index makes with the base
unfoldable pub indexed_by : Base → Displacement → IndexRegister → Span → Operand
indexed_by (Base.Address r) d x = O.index d r x
indexed_by Base.ProgramCounter d x = O.pc_index d x

-- `after_base` and `after_counter` in one
unfoldable pub behind_base : Setting → Token → Base → Displacement → Reader (Option Operand)
behind_base s k base d =
    bump (is Kinds.right_paren) (λ close x. closed s base d close) λ u.
    bump (is Kinds.comma) (λ c x. base_and_index s k (index_shape base) (base_register base) d (indexed_by base d)) λ u.
    unclosed s k (open_shape base d) Problems.paren_missing

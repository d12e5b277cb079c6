-- An address register or the program counter in parentheses: parse_base_and_index.
-- Assumes nothing.
use Rattle.std.specs.Prelude.{ℕ, Option, Some}
use Rattle.names.specs.Choice.{pick}
use Rattle.names.specs.Kinds
use Rattle.names.specs.declared.tokens.Token.{Token}
use Rattle.records.specs.Problems
use Rattle.records.specs.Shapes
use Rattle.records.specs.Spans.{span}
use Rattle.records.specs.declared.spans.Span.{Span}
use Rattle.expressions.specs.declared.reading.Setting.{Setting}
use Rattle.expressions.specs.Reader.{is, any, Reader, answer, bump}
use Rattle.operand.specs.Operands.{Displacement, displaced, undisplaced, Operand}
use Rattle.operand.specs.declared.forms.Register.{Register}
use Rattle.operand.specs.declared.forms.IndexRegister.{IndexRegister}
use Rattle.operand.specs.declared.forms.BaseRegister.{BaseRegister}
use Rattle.operand.specs.Operands as O
use Rattle.operand.specs.Operand.Tries.{◌>>=?◌}
use Rattle.operand.specs.Operand.Lookahead.{an_address_register, a_program_counter, register_from}
use Rattle.operand.specs.Operand.Malformed.{malformed, unclosed, not_an_address_register, expect_close}
use Rattle.operand.specs.Operand.Indexes.{parse_index_register}

-- the shape of an operand whose base is wrong, by whether it has a displacement
unfoldable pub base_shape : Displacement → ℕ
base_shape (displaced e size) = Shapes.displacement
base_shape undisplaced = Shapes.indirect

-- with an index, which makes a full index where it is written suppressed (`suppressed_index`)
unfoldable pub indexed_operand : Displacement → BaseRegister → (IndexRegister → Span → Operand) → IndexRegister → Span → Operand
indexed_operand d base plain index z = pick index.suppressed (O.full_index d base (Some index) 0 undisplaced z) (plain index z)

-- `")"` behind the index
abbrev pub close_index : Setting → Token → ℕ → BaseRegister → IndexRegister → Displacement → (IndexRegister → Span → Operand) → Reader (Option Operand)
close_index s paren shape base index d plain =
    expect_close s paren shape >>=? λ end. answer (Some (indexed_operand d base plain index (span s.start end)))

-- `index ")"` behind the comma
abbrev pub base_and_index : Setting → Token → ℕ → BaseRegister → Displacement → (IndexRegister → Span → Operand) → Reader (Option Operand)
base_and_index s paren shape base d plain = parse_index_register s shape >>=? λ index. close_index s paren shape base index d plain

-- behind the parenthesis: `[ "+" ]` where there is no displacement
unfoldable pub closed_base : Setting → Register → Displacement → Token → Reader (Option Operand)
closed_base s r (displaced e size) close = answer (Some (O.displacement e r (span s.start close.end)))
closed_base s r undisplaced close =
    bump (is Kinds.plus) (λ plus x. answer (Some (O.postincrement r (span s.start plus.end)))) λ u.
    answer (Some (O.indirect r (span s.start close.end)))

-- `[ "," index ] ")"` behind an address register
unfoldable pub after_base : Setting → Token → Displacement → Register → Reader (Option Operand)
after_base s paren d r =
    bump (is Kinds.right_paren) (λ close x. closed_base s r d close) λ u.
    bump (is Kinds.comma) (λ comma x. base_and_index s paren Shapes.index (BaseRegister.Address r) d (λ index. O.index d r index)) λ u.
    unclosed s paren (base_shape d) Problems.paren_missing

-- behind the parenthesis: the program counter alone needs a displacement
unfoldable pub closed_counter : Setting → Displacement → Token → Reader (Option Operand)
closed_counter s (displaced e size) close = answer (Some (O.pc_displacement e (span s.start close.end)))
closed_counter s undisplaced close = malformed s Shapes.pc_displacement Problems.the_displacement_missing

-- `[ "," index ] ")"` behind the program counter
unfoldable pub after_counter : Setting → Token → Displacement → Reader (Option Operand)
after_counter s paren d =
    bump (is Kinds.right_paren) (λ close x. closed_counter s d close) λ u.
    bump (is Kinds.comma) (λ comma x. base_and_index s paren Shapes.pc_index BaseRegister.ProgramCounter d (λ index. O.pc_index d index)) λ u.
    unclosed s paren Shapes.pc_displacement Problems.paren_missing

-- `( base [ , index ] )`, behind the parenthesis
unfoldable pub parse_base_and_index : Setting → Token → Displacement → Reader (Option Operand)
parse_base_and_index s paren d =
    bump an_address_register (λ k x. after_base s paren d (register_from k x)) λ u.
    bump a_program_counter (λ k x. after_counter s paren d) λ u.
    bump any (λ k x. not_an_address_register s (base_shape d) k) λ u.
    unclosed s paren (base_shape d) Problems.base_missing

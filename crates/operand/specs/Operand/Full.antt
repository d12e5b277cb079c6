-- The full index: parse_base_and_index_registers, starts_a_full_index, parse_full_index.
-- Assumes nothing.
use Rattle.std.specs.Prelude.{Bool, true, false, not, ℕ, ◌+◌, ◌-◌, eqb, Option, Some, None}
use Rattle.names.specs.Choice.{both, either}
use Rattle.names.specs.Kinds
use Rattle.names.specs.Registers.{suppressed_of}
use Rattle.names.specs.declared.tokens.Token.{Token}
use Rattle.records.specs.Problems
use Rattle.records.specs.Shapes
use Rattle.records.specs.Spans.{span}
use Rattle.expressions.specs.declared.reading.Setting.{Setting}
use Rattle.expressions.specs.Reader.{Test, is, Reader, answer, here, bump, peek}
use Rattle.operand.specs.Operands.{Displacement, undisplaced, Operand}
use Rattle.operand.specs.declared.forms.BaseRegister.{BaseRegister}
use Rattle.operand.specs.declared.forms.Registers.{Registers}
use Rattle.operand.specs.Operands as O
use Rattle.operand.specs.Operand.Tries.{◌>>=?◌}
use Rattle.operand.specs.Operand.Lookahead.{is_suppressed, is_suppressed_register, is_suppressed_address, a_register, an_address_register, a_program_counter, unmarked, an_index, suppressed_index, register_from}
use Rattle.operand.specs.Operand.Malformed.{stepped_over, expect_close}
use Rattle.operand.specs.Operand.Indexes.{parse_index_register}
use Rattle.operand.specs.declared.forms.IndexRegister.{IndexRegister}

-- ---- parse_base_and_index_registers, with one of them required

abbrev pub registers : BaseRegister → Option IndexRegister → Registers
registers base index = record { base = base; index = index }

-- the index at the cursor, with this base
abbrev pub with_index : Setting → ℕ → BaseRegister → Reader (Option Registers)
with_index s shape base = parse_index_register s shape >>=? λ index. answer (Some (registers base (Some index)))

-- `[ "," index ]`
abbrev pub comma_and_index : Setting → ℕ → BaseRegister → Reader (Option Registers)
comma_and_index s shape base = bump (is Kinds.comma) (λ comma x. with_index s shape base) λ u. answer (Some (registers base None))

-- behind a base
unfoldable pub after_base_register : Setting → ℕ → BaseRegister → Reader (Option Registers)
after_base_register s shape base =
    here λ i l.
    peek 1 (an_index s (i + 1)) (λ k x. comma_and_index s shape base) λ u.
    answer (Some (registers base None))

-- a size or a scale makes an address register an index
unfoldable pub size_or_scale : Test
size_or_scale k x = either (eqb k.kind Kinds.size_suffix) (eqb k.kind Kinds.star)

-- an index alone, its base left out
unfoldable pub no_base : Setting → ℕ → Reader (Option Registers)
no_base s shape =
    here λ i l.
    peek 0 (an_index s i) (λ k x. with_index s shape BaseRegister.Omitted) λ u.
    stepped_over s shape Problems.base_or_index_missing

-- `base [ "," index ] | index`; the base is `base_at`
unfoldable pub parse_base_and_index_registers : Setting → ℕ → Reader (Option Registers)
parse_base_and_index_registers s shape =
    here λ i l.
    bump a_program_counter (λ k x. after_base_register s shape BaseRegister.ProgramCounter) λ u.
    bump (unmarked s i λ found. both (is_suppressed found) (not (is_suppressed_register found))) (λ k x. after_base_register s shape BaseRegister.SuppressedProgramCounter) λ u.
    peek 1 size_or_scale (λ k x. no_base s shape) λ u.
    bump an_address_register (λ k x. after_base_register s shape (BaseRegister.Address (register_from k x))) λ u.
    bump (unmarked s i is_suppressed_address) (λ k x. after_base_register s shape (BaseRegister.SuppressedAddress (suppressed_index (suppressed_of x) - 8))) λ u.
    no_base s shape

-- ---- starts_a_full_index

-- one of the kinds follows
unfoldable pub closes : Bool → Bool → Test
closes aParen aComma k x = either (both aParen (eqb k.kind Kinds.right_paren)) (either (both aComma (eqb k.kind Kinds.comma)) (size_or_scale k x))

-- a suppressed register, a data register that is no base, or an address register with a size or a scale
unfoldable pub starts_a_full_index : {A : Type 0} → Setting → (Unit {0} → Reader A) → (Unit {0} → Reader A) → Reader A
starts_a_full_index s hit miss =
    here λ i l.
    peek 0 (unmarked s i is_suppressed) (λ k x. peek 1 (closes true true) (λ t y. hit tt) miss) λ u.
    peek 0 an_address_register (λ k x. peek 1 (closes false false) (λ t y. hit tt) miss) λ u.
    peek 0 a_register (λ k x. peek 1 (closes true false) (λ t y. hit tt) miss) miss

-- ---- parse_full_index: `base [ "," index ] ")"` or `index ")"`, without brackets

unfoldable pub parse_full_index : Setting → Token → Displacement → Reader (Option Operand)
parse_full_index s paren d =
    parse_base_and_index_registers s Shapes.index >>=? λ pair.
    expect_close s paren Shapes.index >>=? λ end.
    answer (Some (O.full_index d pair.base pair.index 0 undisplaced (span s.start end)))

-- Memory indirect: parse_sized_displacement, parse_memory_indirect.
-- Assumes nothing.
use Rattle.std.specs.Prelude.{ℕ, Option, Some, None}
use Rattle.names.specs.Kinds
use Rattle.names.specs.declared.tokens.Token.{Token}
use Rattle.records.specs.Problems
use Rattle.records.specs.Shapes
use Rattle.records.specs.Spans.{span}
use Rattle.expressions.specs.Trees.{Expr, span_e}
use Rattle.expressions.specs.declared.reading.Setting.{Setting}
use Rattle.expressions.specs.Reader.{is, Reader, answer, here, bump, peek, ◌>>=◌}
use Rattle.expressions.specs.Expressions.{Suffix, suffixed, bare, take_size_suffix}
use Rattle.operand.specs.Operands.{Displacement, displaced, undisplaced, Operand}
use Rattle.operand.specs.declared.forms.IndexRegister.{IndexRegister}
use Rattle.operand.specs.declared.forms.BaseRegister.{BaseRegister}
use Rattle.operand.specs.declared.forms.Registers.{Registers}
use Rattle.operand.specs.Operands as O
use Rattle.operand.specs.Operand.Tries.{◌>>=?◌, expression_or}
use Rattle.operand.specs.Operand.Lookahead.{an_index, a_base_or_an_index}
use Rattle.operand.specs.Operand.Malformed.{unclosed, stepped_over, expect_close}
use Rattle.operand.specs.Operand.Indexes.{parse_index_register}
use Rattle.operand.specs.Operand.Full.{registers, parse_base_and_index_registers}

-- ---- parse_sized_displacement: `expression [ size_suffix ]`

unfoldable pub sized : Expr → Suffix → Reader (Option Displacement)
sized e bare = answer (Some (displaced e 0))
sized e (suffixed size z) = answer (Some (displaced e size))

unfoldable pub parse_sized_displacement : Setting → Reader (Option Displacement)
parse_sized_displacement s = expression_or s (stepped_over s Shapes.memory_indirect Problems.a_displacement_missing) λ e. take_size_suffix (span_e e).start >>= sized e

-- ---- parse_memory_indirect

-- what stands between the brackets
pub record Inner : Type 0 where
  pub displacement : Displacement
  pub registers : Registers

abbrev pub inner : Displacement → Registers → Inner
inner d pair = record { displacement = d; registers = pair }

abbrev pub no_registers : Registers
no_registers = registers BaseRegister.Omitted None

-- the registers at the cursor, with this displacement
abbrev pub with_registers : Setting → Displacement → Reader (Option Inner)
with_registers s d = parse_base_and_index_registers s Shapes.memory_indirect >>=? λ pair. answer (Some (inner d pair))

-- `[ "," registers ]`, behind the displacement
unfoldable pub inner_displaced : Setting → Displacement → Reader (Option Inner)
inner_displaced s d =
    bump (is Kinds.comma) (λ comma x. with_registers s d) λ u.
    answer (Some (inner d no_registers))

-- `displacement [ "," registers ]`
abbrev pub inner_displacement : Setting → Reader (Option Inner)
inner_displacement s = parse_sized_displacement s >>=? inner_displaced s

-- `[ registers | displacement [ "," registers ] ]`
unfoldable pub parse_inner : Setting → Reader (Option Inner)
parse_inner s =
    here λ i l.
    peek 0 (is Kinds.right_bracket) (λ k x. answer (Some (inner undisplaced no_registers))) λ u.
    peek 0 (a_base_or_an_index s i) (λ k x. with_registers s undisplaced) λ u.
    inner_displacement s

-- what stands behind them: the index, the indirection and the outer displacement
pub record Outer : Type 0 where
  pub index : Option IndexRegister
  pub indirection : ℕ
  pub displacement : Displacement

abbrev pub outer : Option IndexRegister → ℕ → Displacement → Outer
outer index indirection d = record { index = index; indirection = indirection; displacement = d }

-- the displacement at the cursor, with this index and indirection
abbrev pub outer_displacement : Setting → Option IndexRegister → ℕ → Reader (Option Outer)
outer_displacement s index indirection = parse_sized_displacement s >>=? λ d. answer (Some (outer index indirection d))

-- `[ "," displacement ]`, behind the index
unfoldable pub outer_indexed : Setting → IndexRegister → Reader (Option Outer)
outer_indexed s index =
    bump (is Kinds.comma) (λ comma x. outer_displacement s (Some index) 2) λ u.
    answer (Some (outer (Some index) 2 undisplaced))

-- an index goes inside the brackets or behind them, not both
unfoldable pub outer_index : Setting → Option IndexRegister → Reader (Option Outer)
outer_index s (Some index) = stepped_over s Shapes.memory_indirect Problems.index_twice
outer_index s None = parse_index_register s Shapes.memory_indirect >>=? outer_indexed s

-- `[ "," ( index [ "," displacement ] | displacement ) ]`, behind the brackets, with the index that stood between them
unfoldable pub parse_outer : Setting → Option IndexRegister → Reader (Option Outer)
parse_outer s index =
    bump (is Kinds.comma)
    (λ comma x.
    here λ i l.
    peek 0 (an_index s i) (λ k x. outer_index s index) λ u.
    outer_displacement s index 1) λ u.
    answer (Some (outer index 1 undisplaced))

-- `")"`, behind the two parts
abbrev pub close_indirect : Setting → Token → Inner → Outer → Reader (Option Operand)
close_indirect s paren part rest =
    expect_close s paren Shapes.memory_indirect >>=? λ end.
    answer (Some (O.full_index part.displacement part.registers.base rest.index rest.indirection rest.displacement (span s.start end)))

-- behind the bracket that closes the inner part
abbrev pub after_inner : Setting → Token → Inner → Reader (Option Operand)
after_inner s paren part = parse_outer s part.registers.index >>=? λ rest. close_indirect s paren part rest

-- `([bd,An,Xn],od)` and `([bd,An],Xn,od)`, every part left out at will; behind the bracket
unfoldable pub parse_memory_indirect : Setting → Token → Reader (Option Operand)
parse_memory_indirect s paren =
    parse_inner s >>=? λ part.
    bump (is Kinds.right_bracket) (λ k x. after_inner s paren part) λ u.
    unclosed s paren Shapes.memory_indirect Problems.bracket_missing

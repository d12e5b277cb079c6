-- The addressing modes of Motorola's manual, section 2.2, in its order and its spelling: one table, and one theorem.
-- Assumes nothing.
use Rattle.std.specs.Prelude.{◌≡◌, refl, false, List, [], ◌∷◌, ℕ, ◌+◌, ◌/◌, length, Option, Some}
use Prim.Native.String.{String}
use Rattle.names.specs.Kinds
use Rattle.names.specs.Places.{place}
use Rattle.names.specs.Letters.{bytes}
use Rattle.records.specs.Spans.{span}
use Rattle.expressions.specs.Trees.{number}
use Rattle.expressions.specs.Reader.{Reading, reading}
use Rattle.operand.specs.Operands.{displaced, undisplaced, single, range, Operand}
use Rattle.operand.specs.Operands as O
use Rattle.operand.specs.Operand.{reading_of}
use Rattle.operand.specs.Trials.{sign, token, digit, register}
use Rattle.operand.specs.declared.forms.Register.{Register}
use Rattle.operand.specs.declared.forms.IndexRegister.{IndexRegister}
use Rattle.operand.specs.declared.forms.BaseRegister.{BaseRegister}
use Rattle.names.specs.Tokens as Names-as-Tokens
use Rattle.names.specs.Places as Names-as-Places
use Rattle.names.specs.Letters as Names-as-Letters
use Rattle.names.specs.Registers as Names-as-Registers
use Rattle.names.specs.Sizes as Names-as-Sizes
use Rattle.names.specs.Numbers as Names-as-Numbers
use Rattle.expressions.specs.Trees as Expressions-as-Trees
use Rattle.expressions.specs.Reader as Expressions-as-Reader
use Rattle.expressions.specs.Expressions as Expressions-as-Expressions
use Rattle.operand.specs.Operand as Operand-as-Operand

-- a text with its tokens, four bytes each, and the operand that it is read as
pub record Example : Type 0 where
  pub text : List ℕ
  pub tokens : List ℕ
  pub operand : Operand

abbrev pub example : String → List ℕ → Operand → Example
example t ts y = record { text = bytes t; tokens = ts; operand = y }

-- read from the first token on, with at most 64 terms open and no symbol mark
unfoldable pub readings : List Example → List (Reading (Option Operand))
readings [] = []
readings (e ∷ es) = reading_of 64 255 (place e.text e.tokens) 0 ∷ readings es

-- the operand, with every token consumed up to the text's end, and no diagnostic
unfoldable pub expected : List Example → List (Reading (Option Operand))
expected [] = []
expected (e ∷ es) = reading (length e.tokens / 4) (length e.text) [] (Some e.operand) ∷ expected es

-- a register by its mask index, two letters long, at an offset
abbrev pub register_at : ℕ → ℕ → Register
register_at n at = record { index = n; span = span at (at + 2) }

-- D1 at an offset, with a size, a scale, and where it ends
abbrev pub index_at : ℕ → ℕ → ℕ → ℕ → IndexRegister
index_at at size scale end = record { register = register_at 1 at; size = size; scale = scale; suppressed = false; span = span at end }

unfoldable pub modes : List Example
modes =
    -- data register direct
    example "D3" (register 0 [])
    (O.data_register_direct (register_at 3 0) (span 0 2))
    -- address register direct
    ∷ example "A3" (register 0 [])
    (O.address_register_direct (register_at 11 0) (span 0 2))
    -- address register indirect
    ∷ example "(A3)" (sign Kinds.left_paren 0 (register 1 (sign Kinds.right_paren 3 [])))
    (O.indirect (register_at 11 1) (span 0 4))
    -- with postincrement
    ∷ example "(A3)+" (sign Kinds.left_paren 0 (register 1 (sign Kinds.right_paren 3 (sign Kinds.plus 4 []))))
    (O.postincrement (register_at 11 1) (span 0 5))
    -- with predecrement
    ∷ example "-(A3)" (sign Kinds.minus 0 (sign Kinds.left_paren 1 (register 2 (sign Kinds.right_paren 4 []))))
    (O.predecrement (register_at 11 2) (span 0 5))
    -- with displacement
    ∷ example "(4,A3)" (sign Kinds.left_paren 0 (digit 1 (sign Kinds.comma 2 (register 3 (sign Kinds.right_paren 5 [])))))
    (O.displacement (number 0 4 (span 1 2)) (register_at 11 3) (span 0 6))
    -- with index, 8-bit displacement
    ∷ example "(4,A3,D1.W*2)" (sign Kinds.left_paren 0 (digit 1 (sign Kinds.comma 2 (register 3 (sign Kinds.comma 5 (register 6 (token Kinds.size_suffix 8 10 (sign Kinds.star 10 (digit 11 (sign Kinds.right_paren 12 []))))))))))
    (O.index (displaced (number 0 4 (span 1 2)) 0) (register_at 11 3) (index_at 6 2 2 12) (span 0 13))
    -- with index, base displacement
    ∷ example "(4.L,A3,D1.W*2)" (sign Kinds.left_paren 0 (digit 1 (token Kinds.size_suffix 2 4 (sign Kinds.comma 4 (register 5 (sign Kinds.comma 7 (register 8 (token Kinds.size_suffix 10 12 (sign Kinds.star 12 (digit 13 (sign Kinds.right_paren 14 [])))))))))))
    (O.full_index (displaced (number 0 4 (span 1 2)) 3) (BaseRegister.Address (register_at 11 5)) (Some (index_at 8 2 2 14)) 0 undisplaced (span 0 15))
    -- memory indirect postindexed
    ∷ example "([4,A3],D1.W*2,8)" (sign Kinds.left_paren 0 (sign Kinds.left_bracket 1 (digit 2 (sign Kinds.comma 3 (register 4 (sign Kinds.right_bracket 6 (sign Kinds.comma 7 (register 8 (token Kinds.size_suffix 10 12 (sign Kinds.star 12 (digit 13 (sign Kinds.comma 14 (digit 15 (sign Kinds.right_paren 16 []))))))))))))))
    (O.full_index (displaced (number 0 4 (span 2 3)) 0) (BaseRegister.Address (register_at 11 4)) (Some (index_at 8 2 2 14)) 2 (displaced (number 0 8 (span 15 16)) 0) (span 0 17))
    -- memory indirect preindexed
    ∷ example "([4,A3,D1.L*4],8)" (sign Kinds.left_paren 0 (sign Kinds.left_bracket 1 (digit 2 (sign Kinds.comma 3 (register 4 (sign Kinds.comma 6 (register 7 (token Kinds.size_suffix 9 11 (sign Kinds.star 11 (digit 12 (sign Kinds.right_bracket 13 (sign Kinds.comma 14 (digit 15 (sign Kinds.right_paren 16 []))))))))))))))
    (O.full_index (displaced (number 0 4 (span 2 3)) 0) (BaseRegister.Address (register_at 11 4)) (Some (index_at 7 3 4 13)) 1 (displaced (number 0 8 (span 15 16)) 0) (span 0 17))
    -- program counter indirect with displacement
    ∷ example "(4,PC)" (sign Kinds.left_paren 0 (digit 1 (sign Kinds.comma 2 (register 3 (sign Kinds.right_paren 5 [])))))
    (O.pc_displacement (number 0 4 (span 1 2)) (span 0 6))
    -- with index, 8-bit displacement
    ∷ example "(4,PC,D1)" (sign Kinds.left_paren 0 (digit 1 (sign Kinds.comma 2 (register 3 (sign Kinds.comma 5 (register 6 (sign Kinds.right_paren 8 [])))))))
    (O.pc_index (displaced (number 0 4 (span 1 2)) 0) (index_at 6 0 0 8) (span 0 9))
    -- with index, base displacement
    ∷ example "(4.W,PC,D1.W*2)" (sign Kinds.left_paren 0 (digit 1 (token Kinds.size_suffix 2 4 (sign Kinds.comma 4 (register 5 (sign Kinds.comma 7 (register 8 (token Kinds.size_suffix 10 12 (sign Kinds.star 12 (digit 13 (sign Kinds.right_paren 14 [])))))))))))
    (O.full_index (displaced (number 0 4 (span 1 2)) 2) BaseRegister.ProgramCounter (Some (index_at 8 2 2 14)) 0 undisplaced (span 0 15))
    -- program counter memory indirect postindexed
    ∷ example "([4,PC],D1.W*2,8)" (sign Kinds.left_paren 0 (sign Kinds.left_bracket 1 (digit 2 (sign Kinds.comma 3 (register 4 (sign Kinds.right_bracket 6 (sign Kinds.comma 7 (register 8 (token Kinds.size_suffix 10 12 (sign Kinds.star 12 (digit 13 (sign Kinds.comma 14 (digit 15 (sign Kinds.right_paren 16 []))))))))))))))
    (O.full_index (displaced (number 0 4 (span 2 3)) 0) BaseRegister.ProgramCounter (Some (index_at 8 2 2 14)) 2 (displaced (number 0 8 (span 15 16)) 0) (span 0 17))
    -- program counter memory indirect preindexed
    ∷ example "([4,PC,D1.L*4],8)" (sign Kinds.left_paren 0 (sign Kinds.left_bracket 1 (digit 2 (sign Kinds.comma 3 (register 4 (sign Kinds.comma 6 (register 7 (token Kinds.size_suffix 9 11 (sign Kinds.star 11 (digit 12 (sign Kinds.right_bracket 13 (sign Kinds.comma 14 (digit 15 (sign Kinds.right_paren 16 []))))))))))))))
    (O.full_index (displaced (number 0 4 (span 2 3)) 0) BaseRegister.ProgramCounter (Some (index_at 7 3 4 13)) 1 (displaced (number 0 8 (span 15 16)) 0) (span 0 17))
    -- absolute short
    ∷ example "($1000).W" (sign Kinds.left_paren 0 (Kinds.number ∷ 1 ∷ 1 ∷ 6 ∷ sign Kinds.right_paren 6 (token Kinds.size_suffix 7 9 [])))
    (O.absolute (number 1 4096 (span 0 7)) 2 (span 0 9))
    -- absolute long
    ∷ example "($1000).L" (sign Kinds.left_paren 0 (Kinds.number ∷ 1 ∷ 1 ∷ 6 ∷ sign Kinds.right_paren 6 (token Kinds.size_suffix 7 9 [])))
    (O.absolute (number 1 4096 (span 0 7)) 3 (span 0 9))
    -- immediate data
    ∷ example "#5" (sign Kinds.hash 0 (digit 1 []))
    (O.immediate (number 0 5 (span 1 2)) false (span 0 2))
    -- a register list, as MOVEM has it
    ∷ example "D0-D3/A0" (register 0 (sign Kinds.minus 2 (register 3 (sign Kinds.slash 5 (register 6 [])))))
    (O.register_list (range (register_at 0 0) (register_at 3 3) (span 0 5) ∷ single (register_at 8 6) ∷ []) (span 0 8))
    -- a special register, as MOVE to SR has it
    ∷ example "SR" (register 0 [])
    (O.special_register 1 (span 0 2))
    ∷ []

-- each is read as its mode
pub modes_are_read : readings modes ≡ expected modes
unfolding readings expected modes Names-as-Tokens.token_at Names-as-Places.text_of Names-as-Places.placed Names-as-Places.place Names-as-Letters.lower Names-as-Letters.lowered Names-as-Letters.same Names-as-Letters.spelled Names-as-Registers.pair Names-as-Registers.register Names-as-Registers.register_of Names-as-Registers.program_counter Names-as-Registers.named Names-as-Registers.special_of Names-as-Registers.suppressing Names-as-Registers.suppressed Names-as-Registers.suppressed_of Names-as-Registers.one_of Names-as-Registers.reserved Names-as-Sizes.run_of Names-as-Sizes.letter_size Names-as-Sizes.size_of Names-as-Numbers.radix_of Names-as-Numbers.width Names-as-Numbers.figure Names-as-Numbers.scan Names-as-Numbers.digits_of Names-as-Numbers.in_base Names-as-Numbers.base_of Names-as-Numbers.number_of Expressions-as-Trees.span_e Expressions-as-Trees.with_span Expressions-as-Reader.met Expressions-as-Reader.run Expressions-as-Expressions.known Expressions-as-Expressions.suffix_run Expressions-as-Expressions.take_size_suffix Expressions-as-Expressions.precedence Expressions-as-Expressions.binary_operator Expressions-as-Expressions.operator Expressions-as-Expressions.operated Expressions-as-Expressions.parse_expression_from Expressions-as-Expressions.climbed Expressions-as-Expressions.parse_expression_of Expressions-as-Expressions.is_unary Expressions-as-Expressions.unary_operator Expressions-as-Expressions.negated Expressions-as-Expressions.plussed Expressions-as-Expressions.valued Expressions-as-Expressions.named Expressions-as-Expressions.grouped Expressions-as-Expressions.number_term Expressions-as-Expressions.leaf_term Expressions-as-Expressions.parse_prefix_term Expressions-as-Expressions.too_deep Expressions-as-Expressions.parse_prefix Expressions-as-Expressions.fuel Expressions-as-Expressions.parse_expression Expressions-as-Expressions.expression_from Operand-as-Operand.is_address Operand-as-Operand.is_suppressed Operand-as-Operand.is_suppressed_register Operand-as-Operand.is_suppressed_address Operand-as-Operand.a_register Operand-as-Operand.an_address_register Operand-as-Operand.a_program_counter Operand-as-Operand.unmarked Operand-as-Operand.an_index Operand-as-Operand.a_base_or_an_index Operand-as-Operand.index_of Operand-as-Operand.suppressed_index Operand-as-Operand.register_from Operand-as-Operand.malformed Operand-as-Operand.unclosed Operand-as-Operand.stepped_over Operand-as-Operand.not_an_address_register Operand-as-Operand.immediate_size Operand-as-Operand.or_absent Operand-as-Operand.parse_immediate Operand-as-Operand.expect_close Operand-as-Operand.over Operand-as-Operand.or_none Operand-as-Operand.predecrement_close Operand-as-Operand.parse_predecrement Operand-as-Operand.register_expected Operand-as-Operand.ranged Operand-as-Operand.list_item Operand-as-Operand.listed Operand-as-Operand.next_item Operand-as-Operand.list_loop Operand-as-Operand.parse_register_list Operand-as-Operand.register_direct Operand-as-Operand.parse_register_operand Operand-as-Operand.scale_of Operand-as-Operand.scaled Operand-as-Operand.index_scale Operand-as-Operand.index_size Operand-as-Operand.index_register Operand-as-Operand.parse_index_register Operand-as-Operand.base_shape Operand-as-Operand.indexed_operand Operand-as-Operand.closed_base Operand-as-Operand.after_base Operand-as-Operand.closed_counter Operand-as-Operand.after_counter Operand-as-Operand.parse_base_and_index Operand-as-Operand.after_base_register Operand-as-Operand.size_or_scale Operand-as-Operand.no_base Operand-as-Operand.parse_base_and_index_registers Operand-as-Operand.closes Operand-as-Operand.starts_a_full_index Operand-as-Operand.parse_full_index Operand-as-Operand.sized Operand-as-Operand.parse_sized_displacement Operand-as-Operand.inner_displaced Operand-as-Operand.parse_inner Operand-as-Operand.outer_indexed Operand-as-Operand.outer_index Operand-as-Operand.parse_outer Operand-as-Operand.parse_memory_indirect Operand-as-Operand.absolute_size Operand-as-Operand.finish_expression_operand Operand-as-Operand.displacement_tail Operand-as-Operand.parse_expression_operand Operand-as-Operand.grouped_operand Operand-as-Operand.sized_base Operand-as-Operand.unexpected Operand-as-Operand.after_expression Operand-as-Operand.parenthesised Operand-as-Operand.starts_a_base Operand-as-Operand.parse_parenthesised_operand Operand-as-Operand.special_index Operand-as-Operand.name_or_expression Operand-as-Operand.minus_operand Operand-as-Operand.operand_from Operand-as-Operand.parse_operand Operand-as-Operand.reading_of
modes_are_read = refl

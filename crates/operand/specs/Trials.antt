-- The trial lines that document 01 marks, and those of the nesting limit (document 02): one table, and one theorem.
-- Assumes nothing.
use Rattle.std.specs.Prelude.{◌≡◌, refl, Bool, true, false, List, [], ◌∷◌, ◌++◌, ℕ, zero, suc, ◌+◌, ◌*◌, eqb, replicate, Option, Some, None}
use Prim.Native.String.{String}
use Rattle.names.specs.Choice.{both}
use Rattle.names.specs.Kinds
use Rattle.names.specs.Places.{place}
use Rattle.names.specs.Letters.{bytes, same}
use Rattle.names.specs.Numbers.{figure}
use Rattle.expressions.specs.Trees.{Expr, span_e}
use Rattle.records.specs.declared.diagnostics.Diagnostic.{Diagnostic}
use Rattle.expressions.specs.Reader.{Reading}
use Rattle.expressions.specs.Examples.{shown, own_is}
use Rattle.operand.specs.Operands.{Displacement, displaced, undisplaced, Operand}
use Rattle.operand.specs.Operands as O
use Rattle.operand.specs.Operand.{reading_of}
use Rattle.operand.specs.Forms.{record_of}
use Rattle.operand.specs.declared.layouts.Layout.{Layout}
use Rattle.operand.specs.Layout.{answer_line}
use Rattle.names.specs.Tokens as Names-as-Tokens
use Rattle.names.specs.Places as Names-as-Places
use Rattle.names.specs.Letters as Names-as-Letters
use Rattle.names.specs.Registers as Names-as-Registers
use Rattle.names.specs.Sizes as Names-as-Sizes
use Rattle.names.specs.Numbers as Names-as-Numbers
use Rattle.expressions.specs.Trees as Expressions-as-Trees
use Rattle.records.specs.Diagnostics as Records-as-Diagnostics
use Rattle.records.specs.Nodes as Records-as-Nodes
use Rattle.expressions.specs.Reader as Expressions-as-Reader
use Rattle.expressions.specs.Expressions as Expressions-as-Expressions
use Rattle.expressions.specs.Records as Expressions-as-Records
use Rattle.expressions.specs.Examples as Expressions-as-Examples
use Rattle.operand.specs.Operand as Operand-as-Operand
use Rattle.operand.specs.Records as Operand-as-Records
use Rattle.operand.specs.Forms as Operand-as-Forms
use Rattle.operand.specs.Layouts as Operand-as-Layouts
use Rattle.operand.specs.Layout as Operand-as-Layout

-- what is claimed of a line
pub data Claim : Type 0 where
  -- the program's answer in a layout, in hexadecimal
  answers : Layout → String → Claim
  form : ℕ → Claim
  no_operand : Claim
  cursor : ℕ → Claim
  -- the kinds of the diagnostics, in order
  kinds : List ℕ → Claim
  -- the first one's problem
  problem : ℕ → Claim
  -- the first tree, with each operation in parentheses
  tree : String → Claim
  -- its root's span, and a name's own
  span : ℕ → ℕ → Claim
  name : ℕ → ℕ → Claim

-- a text with its tokens, four numbers each, and the nesting limit
pub record Trial : Type 0 where
  pub text : List ℕ
  pub tokens : List ℕ
  pub limit : ℕ
  pub claims : List Claim

-- ---- whether a reading meets a claim

unfoldable pub hexadecimal : List ℕ → List ℕ
hexadecimal [] = []
hexadecimal (c ∷ []) = []
hexadecimal (c ∷ d ∷ cs) = (16 * figure c + figure d) ∷ hexadecimal cs

unfoldable pub tree_d : Displacement → Option Expr
tree_d (displaced e n) = Some e
tree_d undisplaced = None

unfoldable pub tree_o : Operand → Option Expr
tree_o (O.immediate e l s) = Some e
tree_o (O.data_register_direct r s) = None
tree_o (O.address_register_direct r s) = None
tree_o (O.special_register n s) = None
tree_o (O.indirect r s) = None
tree_o (O.postincrement r s) = None
tree_o (O.predecrement r s) = None
tree_o (O.displacement e r s) = Some e
tree_o (O.index d r x s) = tree_d d
tree_o (O.pc_displacement e s) = Some e
tree_o (O.pc_index d x s) = tree_d d
tree_o (O.full_index d b x n e s) = tree_d d
tree_o (O.absolute e n s) = Some e
tree_o (O.register_list items s) = None

unfoldable pub kinds_of : List Diagnostic → List ℕ
kinds_of [] = []
kinds_of (d ∷ ds) = d.kind ∷ kinds_of ds

unfoldable pub problem_is : ℕ → List Diagnostic → Bool
problem_is n [] = false
problem_is n (d ∷ ds) = eqb d.problem n

unfoldable pub tree_is : String → Option Expr → Bool
tree_is t (Some e) = same (shown e) (bytes t)
tree_is t None = false

unfoldable pub span_is : ℕ → ℕ → Option Expr → Bool
span_is s n (Some e) = both (eqb (span_e e).start s) (eqb (span_e e).end n)
span_is s n None = false

unfoldable pub name_is : ℕ → ℕ → Option Expr → Bool
name_is s n (Some e) = own_is s n e
name_is s n None = false

unfoldable pub tree_m : Option Operand → Option Expr
tree_m (Some x) = tree_o x
tree_m None = None

unfoldable pub form_is : ℕ → Option Operand → Bool
form_is n (Some x) = eqb (record_of x).form n
form_is n None = false

unfoldable pub is_none : Option Operand → Bool
is_none (Some x) = false
is_none None = true

unfoldable pub meets : Reading (Option Operand) → Claim → Bool
meets r (answers w t) = same (answer_line w r r.value) (hexadecimal (bytes t))
meets r (form n) = form_is n r.value
meets r no_operand = is_none r.value
meets r (cursor n) = eqb r.cursor n
meets r (kinds ks) = same (kinds_of r.raised) ks
meets r (problem n) = problem_is n r.raised
meets r (tree t) = tree_is t (tree_m r.value)
meets r (span s n) = span_is s n (tree_m r.value)
meets r (name s n) = name_is s n (tree_m r.value)

unfoldable pub meets_all : Reading (Option Operand) → List Claim → Bool
meets_all r [] = true
meets_all r (c ∷ cs) = both (meets r c) (meets_all r cs)

-- read from the first token on, at its limit and without a symbol mark
unfoldable pub holds_for : Trial → Bool
holds_for t = meets_all (reading_of t.limit 255 (place t.text t.tokens) 0) t.claims

unfoldable pub hold_for_all : List Trial → Bool
hold_for_all [] = true
hold_for_all (t ∷ ts) = both (holds_for t) (hold_for_all ts)

-- ---- the table

-- a sign, one byte long, at an offset
abbrev pub sign : ℕ → ℕ → List ℕ → List ℕ
sign kind at rest = kind ∷ 0 ∷ at ∷ (at + 1) ∷ rest

-- any other token
abbrev pub token : ℕ → ℕ → ℕ → List ℕ → List ℕ
token kind start end rest = kind ∷ 0 ∷ start ∷ end ∷ rest

abbrev pub digit : ℕ → List ℕ → List ℕ
digit at rest = token Kinds.number at (at + 1) rest

abbrev pub register : ℕ → List ℕ → List ℕ
register at rest = token Kinds.identifier at (at + 2) rest

abbrev pub trial_at : ℕ → String → List ℕ → List Claim → Trial
trial_at limit t ts cs = record { text = bytes t; tokens = ts; limit = limit; claims = cs }

-- with at most 64 terms open
abbrev pub trial : String → List ℕ → List Claim → Trial
trial t ts cs = trial_at 64 t ts cs

-- n minus signs from an offset on, and then `1`
unfoldable pub minus_tokens : ℕ → ℕ → List ℕ
minus_tokens at zero = digit at []
minus_tokens at (suc n) = sign Kinds.minus at (minus_tokens (at + 1) n)

unfoldable pub minuses : ℕ → ℕ → List Claim → Trial
minuses limit n cs = record { text = replicate n 45 ++ (49 ∷ []); tokens = minus_tokens 0 n; limit = limit; claims = cs }

-- `d0` behind n spaces
unfoldable pub behind_spaces : ℕ → List Claim → Trial
behind_spaces n cs = record { text = replicate n 32 ++ bytes "d0"; tokens = register n []; limit = 64; claims = cs }

unfoldable pub table : List Trial
table =
    trial "4(a0)" (digit 0 (sign Kinds.left_paren 1 (register 2 (sign Kinds.right_paren 4 []))))
    (answers Layout.Narrow "00040100000800050000080204ff0000000000000000ff00000100ffff00010400000000000000"
    ∷ answers Layout.Wide "0004000100000008000005000000000802000400ff000000000000000000000000ffff00000100ffffffff000001000400000000000000"
    ∷ [])
    ∷ trial "" [] (no_operand ∷ cursor 0 ∷ kinds [] ∷ [])
    ∷ trial "(d0)" (sign Kinds.left_paren 0 (register 1 (sign Kinds.right_paren 3 []))) (form 12 ∷ kinds [] ∷ [])
    ∷ trial "(pc)" (sign Kinds.left_paren 0 (register 1 (sign Kinds.right_paren 3 []))) (no_operand ∷ kinds (7 ∷ []) ∷ problem 4 ∷ [])
    -- registers in the places of children and of a text: their high bytes are 0
    ∷ trial "a0-d0" (register 0 (sign Kinds.minus 2 (register 3 [])))
    (form 14
    ∷ kinds (10 ∷ [])
    ∷ answers Layout.Wide "000300010001000e00000500000000ff00000000ff000000000000000000000000ffff00000800080000000000050000000200030005000a000000000500080000000000000000"
    ∷ [])
    ∷ trial "d1/a0" (register 0 (sign Kinds.slash 2 (register 3 [])))
    (form 14
    ∷ answers Layout.Wide "000300020000000e00000500000000ff00000000ff000000000000000000000000ffff0000070001000100000002000000020000000200070008000800030005000300050003000500"
    ∷ [])
    -- an offset that only the wide layout has
    ∷ behind_spaces 300 (answers Layout.Wide "00010000000000022c012e01ffff00002c012e01ff000000000000000000000000ffff0000" ∷ [])
    ∷ trial "d0-d1-d2" (register 0 (sign Kinds.minus 2 (register 3 (sign Kinds.minus 5 (register 6 []))))) (form 14 ∷ cursor 3 ∷ kinds [] ∷ [])
    ∷ trial "1+2*/3" (digit 0 (sign Kinds.plus 1 (digit 2 (sign Kinds.star 3 (sign Kinds.slash 4 (digit 5 [])))))) (tree "((1+2)/3)" ∷ kinds (12 ∷ []) ∷ [])
    ∷ trial "2*3&1" (digit 0 (sign Kinds.star 1 (digit 2 (sign Kinds.ampersand 3 (digit 4 []))))) (tree "(2*(3&1))" ∷ kinds [] ∷ [])
    ∷ trial "(1)+2(a0)"
    (sign Kinds.left_paren 0 (digit 1 (sign Kinds.right_paren 2 (sign Kinds.plus 3 (digit 4 (sign Kinds.left_paren 5 (register 6 (sign Kinds.right_paren 8 []))))))))
    (form 13 ∷ cursor 5 ∷ [])
    ∷ trial "($10).w" (sign Kinds.left_paren 0 (Kinds.number ∷ 1 ∷ 1 ∷ 4 ∷ sign Kinds.right_paren 4 (token Kinds.size_suffix 5 7 []))) (form 13 ∷ kinds [] ∷ [])
    ∷ trial "($10.w)" (sign Kinds.left_paren 0 (Kinds.number ∷ 1 ∷ 1 ∷ 4 ∷ token Kinds.size_suffix 4 6 (sign Kinds.right_paren 6 []))) (no_operand ∷ [])
    ∷ trial "([])" (sign Kinds.left_paren 0 (sign Kinds.left_bracket 1 (sign Kinds.right_bracket 2 (sign Kinds.right_paren 3 [])))) (form 12 ∷ kinds [] ∷ [])
    ∷ trial "(name)" (sign Kinds.left_paren 0 (token Kinds.identifier 1 5 (sign Kinds.right_paren 5 []))) (span 0 6 ∷ name 1 5 ∷ kinds [] ∷ [])
    ∷ minuses 64 63 (form 13 ∷ cursor 64 ∷ kinds [] ∷ [])
    ∷ minuses 64 64 (no_operand ∷ kinds (6 ∷ []) ∷ [])
    -- a unary plus is stepped over, and told
    ∷ trial "1++5" (digit 0 (sign Kinds.plus 1 (sign Kinds.plus 2 (digit 3 [])))) (form 13 ∷ cursor 4 ∷ tree "(1+5)" ∷ kinds (13 ∷ []) ∷ [])
    -- the lowest limit: one term may be open, and the operand's own first parenthesis opens none
    ∷ trial_at 1 "(1)" (sign Kinds.left_paren 0 (digit 1 (sign Kinds.right_paren 2 []))) (form 13 ∷ kinds [] ∷ [])
    ∷ trial_at 1 "((1))" (sign Kinds.left_paren 0 (sign Kinds.left_paren 1 (digit 2 (sign Kinds.right_paren 3 (sign Kinds.right_paren 4 []))))) (no_operand ∷ cursor 2 ∷ kinds (6 ∷ []) ∷ [])
    ∷ trial_at 1 "-1" (sign Kinds.minus 0 (digit 1 [])) (no_operand ∷ cursor 1 ∷ kinds (6 ∷ []) ∷ [])
    -- a term that is too deep does not always cost the operand
    ∷ trial_at 1 "1+-1" (digit 0 (sign Kinds.plus 1 (sign Kinds.minus 2 (digit 3 [])))) (form 13 ∷ cursor 3 ∷ tree "1" ∷ kinds (6 ∷ []) ∷ [])
    -- without an operand the place behind the cursor decides, and no further one: `-(` and a register is a predecrement, closed or not
    ∷ trial_at 1 "-(x" (sign Kinds.minus 0 (sign Kinds.left_paren 1 (token Kinds.identifier 2 3 []))) (no_operand ∷ cursor 1 ∷ kinds (6 ∷ []) ∷ [])
    ∷ trial_at 1 "-(a0)" (sign Kinds.minus 0 (sign Kinds.left_paren 1 (register 2 (sign Kinds.right_paren 4 [])))) (form 7 ∷ cursor 4 ∷ kinds [] ∷ [])
    ∷ trial_at 1 "-(a0," (sign Kinds.minus 0 (sign Kinds.left_paren 1 (register 2 (sign Kinds.comma 4 [])))) (no_operand ∷ cursor 3 ∷ kinds (7 ∷ []) ∷ problem 3 ∷ [])
    -- the highest
    ∷ minuses 128 127 (form 13 ∷ cursor 128 ∷ kinds [] ∷ [])
    ∷ minuses 128 128 (no_operand ∷ cursor 128 ∷ kinds (6 ∷ []) ∷ [])
    ∷ []

-- each line is read as claimed
pub trials : hold_for_all table ≡ true
unfolding Expressions-as-Examples.shown Expressions-as-Examples.own_is Names-as-Tokens.token_at Names-as-Tokens.detail_defined Names-as-Places.text_of Names-as-Places.placed Names-as-Places.place Names-as-Letters.lower Names-as-Letters.lowered Names-as-Letters.same Names-as-Letters.spelled Names-as-Registers.pair Names-as-Registers.register Names-as-Registers.register_of Names-as-Registers.program_counter Names-as-Registers.named Names-as-Registers.special_of Names-as-Registers.suppressing Names-as-Registers.suppressed Names-as-Registers.suppressed_of Names-as-Registers.one_of Names-as-Registers.reserved Names-as-Sizes.run_of Names-as-Sizes.letter_size Names-as-Sizes.size_of Names-as-Numbers.radix_of Names-as-Numbers.width Names-as-Numbers.figure Names-as-Numbers.scan Names-as-Numbers.digits_of Names-as-Numbers.in_base Names-as-Numbers.base_of Names-as-Numbers.number_of Expressions-as-Trees.span_e Expressions-as-Trees.with_span Expressions-as-Trees.size Records-as-Diagnostics.diagnostic_record Expressions-as-Reader.met Expressions-as-Reader.run Expressions-as-Reader.reach Expressions-as-Expressions.known Expressions-as-Expressions.suffix_run Expressions-as-Expressions.take_size_suffix Expressions-as-Expressions.precedence Expressions-as-Expressions.binary_operator Expressions-as-Expressions.operator Expressions-as-Expressions.operated Expressions-as-Expressions.parse_expression_from Expressions-as-Expressions.climbed Expressions-as-Expressions.parse_expression_of Expressions-as-Expressions.is_unary Expressions-as-Expressions.unary_operator Expressions-as-Expressions.negated Expressions-as-Expressions.plussed Expressions-as-Expressions.valued Expressions-as-Expressions.named Expressions-as-Expressions.grouped Expressions-as-Expressions.number_term Expressions-as-Expressions.leaf_term Expressions-as-Expressions.parse_prefix_term Expressions-as-Expressions.too_deep Expressions-as-Expressions.parse_prefix Expressions-as-Expressions.fuel Expressions-as-Expressions.parse_expression Expressions-as-Expressions.expression_from Records-as-Nodes.low_first Records-as-Nodes.words Expressions-as-Records.nodes Operand-as-Operand.is_address Operand-as-Operand.is_suppressed Operand-as-Operand.is_suppressed_register Operand-as-Operand.is_suppressed_address Operand-as-Operand.a_register Operand-as-Operand.an_address_register Operand-as-Operand.a_program_counter Operand-as-Operand.unmarked Operand-as-Operand.an_index Operand-as-Operand.a_base_or_an_index Operand-as-Operand.index_of Operand-as-Operand.suppressed_index Operand-as-Operand.register_from Operand-as-Operand.malformed Operand-as-Operand.unclosed Operand-as-Operand.stepped_over Operand-as-Operand.not_an_address_register Operand-as-Operand.immediate_size Operand-as-Operand.or_absent Operand-as-Operand.parse_immediate Operand-as-Operand.expect_close Operand-as-Operand.over Operand-as-Operand.or_none Operand-as-Operand.predecrement_close Operand-as-Operand.parse_predecrement Operand-as-Operand.register_expected Operand-as-Operand.ranged Operand-as-Operand.list_item Operand-as-Operand.listed Operand-as-Operand.next_item Operand-as-Operand.list_loop Operand-as-Operand.parse_register_list Operand-as-Operand.register_direct Operand-as-Operand.parse_register_operand Operand-as-Operand.scale_of Operand-as-Operand.scaled Operand-as-Operand.index_scale Operand-as-Operand.index_size Operand-as-Operand.index_register Operand-as-Operand.parse_index_register Operand-as-Operand.base_shape Operand-as-Operand.indexed_operand Operand-as-Operand.closed_base Operand-as-Operand.after_base Operand-as-Operand.closed_counter Operand-as-Operand.after_counter Operand-as-Operand.parse_base_and_index Operand-as-Operand.after_base_register Operand-as-Operand.size_or_scale Operand-as-Operand.no_base Operand-as-Operand.parse_base_and_index_registers Operand-as-Operand.closes Operand-as-Operand.starts_a_full_index Operand-as-Operand.parse_full_index Operand-as-Operand.sized Operand-as-Operand.parse_sized_displacement Operand-as-Operand.inner_displaced Operand-as-Operand.parse_inner Operand-as-Operand.outer_indexed Operand-as-Operand.outer_index Operand-as-Operand.parse_outer Operand-as-Operand.parse_memory_indirect Operand-as-Operand.absolute_size Operand-as-Operand.finish_expression_operand Operand-as-Operand.displacement_tail Operand-as-Operand.parse_expression_operand Operand-as-Operand.sized_base Operand-as-Operand.unexpected Operand-as-Operand.after_expression Operand-as-Operand.parenthesised Operand-as-Operand.starts_a_base Operand-as-Operand.parse_parenthesised_operand Operand-as-Operand.special_index Operand-as-Operand.name_or_expression Operand-as-Operand.minus_operand Operand-as-Operand.operand_from Operand-as-Operand.parse_operand Operand-as-Operand.reading_of Operand-as-Records.item_record Operand-as-Records.item_records Operand-as-Records.size_d Operand-as-Records.nodes_d Operand-as-Records.size_o Operand-as-Records.nodes_o Operand-as-Records.flag Operand-as-Records.size_m Operand-as-Records.nodes_m Operand-as-Records.diagnostic_records Operand-as-Forms.sized_of Operand-as-Forms.record_of Operand-as-Layout.last_eight Operand-as-Layout.node_from Operand-as-Layout.records_laid Operand-as-Layouts.number Operand-as-Layout.diagnostic_laid Operand-as-Layout.diagnostics_laid Operand-as-Layout.head_laid Operand-as-Layout.sized_part Operand-as-Layout.base_part Operand-as-Layout.index_part Operand-as-Layout.bytes_of Operand-as-Layout.answer_line hexadecimal tree_d tree_o kinds_of problem_is tree_is span_is name_is tree_m form_is is_none meets meets_all holds_for hold_for_all minus_tokens minuses behind_spaces table
trials = refl

-- The sample `4(a0)` (docs/FORMAT.md), and lines that are no frames.
-- Assumes nothing.
use Rattle.std.specs.Prelude.{◌≡◌, refl, [], ◌∷◌, ◌++◌}
use Rattle.names.specs.Letters.{bytes}
use Rattle.names.specs.Tokens as Names-as-Tokens
use Rattle.names.specs.Places as Names-as-Places
use Rattle.names.specs.Letters as Names-as-Letters
use Rattle.names.specs.Registers as Names-as-Registers
use Rattle.names.specs.Sizes as Names-as-Sizes
use Rattle.names.specs.Numbers as Names-as-Numbers
use Rattle.expressions.specs.Trees as Expressions-as-Trees
use Rattle.records.specs.Diagnostics as Records-as-Diagnostics
use Rattle.records.specs.Nodes as Records-as-Nodes
use Rattle.expressions.specs.Reader as Expressions-as-Reader
use Rattle.expressions.specs.Expressions as Expressions-as-Expressions
use Rattle.expressions.specs.Records as Expressions-as-Records
use Rattle.operand.specs.Operand as Operand-as-Operand
use Rattle.operand.specs.Records as Operand-as-Records
use Rattle.operand.specs.Forms as Operand-as-Forms
use Rattle.operand.specs.Layouts as Operand-as-Layouts
use Rattle.operand.specs.Layout as Operand-as-Layout
use Rattle.operand.specs.Entry as Operand-as-Entry
use Rattle.frames.specs.Hex.{digit, digits, value, spells, spelled}
use Rattle.frames.specs.Frame.{diagnostic_bytes, max_nesting_depth, layout_of, opening, behind_opening, is_frame, input_of}
use Rattle.frames.specs.Lines.{onto, lines, answer_lines, answers}
use Rattle.frames.specs.Reply.{bytes_at, input_bytes, frame_bytes, line_bytes, ended, answer_line}

pub sample : answer_line (bytes "053428613029040200000107000102000002040800040500ff")
    ≡ bytes "00040100000800050000080204ff0000000000000000ff00000100ffff00010400000000000000" ++ (10 ∷ [])
unfolding Names-as-Tokens.token_at Names-as-Tokens.detail_defined Names-as-Places.text_of Names-as-Places.placed Names-as-Places.place Names-as-Letters.lower Names-as-Letters.lowered Names-as-Letters.same Names-as-Letters.spelled Names-as-Registers.pair Names-as-Registers.register Names-as-Registers.register_of Names-as-Registers.program_counter Names-as-Registers.named Names-as-Registers.special_of Names-as-Registers.suppressing Names-as-Registers.suppressed Names-as-Registers.suppressed_of Names-as-Registers.one_of Names-as-Registers.reserved Names-as-Sizes.run_of Names-as-Sizes.letter_size Names-as-Sizes.size_of Names-as-Numbers.radix_of Names-as-Numbers.width Names-as-Numbers.figure Names-as-Numbers.scan Names-as-Numbers.digits_of Names-as-Numbers.in_base Names-as-Numbers.base_of Names-as-Numbers.number_of Expressions-as-Trees.span_e Expressions-as-Trees.with_span Expressions-as-Trees.size Records-as-Diagnostics.diagnostic_record Expressions-as-Reader.met Expressions-as-Reader.run Expressions-as-Reader.reach Expressions-as-Expressions.known Expressions-as-Expressions.suffix_run Expressions-as-Expressions.take_size_suffix Expressions-as-Expressions.precedence Expressions-as-Expressions.binary_operator Expressions-as-Expressions.operator Expressions-as-Expressions.operated Expressions-as-Expressions.parse_expression_from Expressions-as-Expressions.climbed Expressions-as-Expressions.parse_expression_of Expressions-as-Expressions.is_unary Expressions-as-Expressions.unary_operator Expressions-as-Expressions.negated Expressions-as-Expressions.plussed Expressions-as-Expressions.valued Expressions-as-Expressions.named Expressions-as-Expressions.grouped Expressions-as-Expressions.number_term Expressions-as-Expressions.leaf_term Expressions-as-Expressions.parse_prefix_term Expressions-as-Expressions.too_deep Expressions-as-Expressions.parse_prefix Expressions-as-Expressions.fuel Expressions-as-Expressions.parse_expression Expressions-as-Expressions.expression_from Records-as-Nodes.low_first Records-as-Nodes.words Expressions-as-Records.nodes Operand-as-Operand.is_address Operand-as-Operand.is_suppressed Operand-as-Operand.is_suppressed_register Operand-as-Operand.is_suppressed_address Operand-as-Operand.a_register Operand-as-Operand.an_address_register Operand-as-Operand.a_program_counter Operand-as-Operand.unmarked Operand-as-Operand.an_index Operand-as-Operand.a_base_or_an_index Operand-as-Operand.index_of Operand-as-Operand.suppressed_index Operand-as-Operand.register_from Operand-as-Operand.malformed Operand-as-Operand.unclosed Operand-as-Operand.stepped_over Operand-as-Operand.not_an_address_register Operand-as-Operand.immediate_size Operand-as-Operand.or_absent Operand-as-Operand.parse_immediate Operand-as-Operand.expect_close Operand-as-Operand.over Operand-as-Operand.or_none Operand-as-Operand.predecrement_close Operand-as-Operand.parse_predecrement Operand-as-Operand.register_expected Operand-as-Operand.ranged Operand-as-Operand.list_item Operand-as-Operand.listed Operand-as-Operand.next_item Operand-as-Operand.list_loop Operand-as-Operand.parse_register_list Operand-as-Operand.register_direct Operand-as-Operand.parse_register_operand Operand-as-Operand.scale_of Operand-as-Operand.scaled Operand-as-Operand.index_scale Operand-as-Operand.index_size Operand-as-Operand.index_register Operand-as-Operand.parse_index_register Operand-as-Operand.base_shape Operand-as-Operand.indexed_operand Operand-as-Operand.closed_base Operand-as-Operand.after_base Operand-as-Operand.closed_counter Operand-as-Operand.after_counter Operand-as-Operand.parse_base_and_index Operand-as-Operand.after_base_register Operand-as-Operand.size_or_scale Operand-as-Operand.no_base Operand-as-Operand.parse_base_and_index_registers Operand-as-Operand.closes Operand-as-Operand.starts_a_full_index Operand-as-Operand.parse_full_index Operand-as-Operand.sized Operand-as-Operand.parse_sized_displacement Operand-as-Operand.inner_displaced Operand-as-Operand.parse_inner Operand-as-Operand.outer_indexed Operand-as-Operand.outer_index Operand-as-Operand.parse_outer Operand-as-Operand.parse_memory_indirect Operand-as-Operand.absolute_size Operand-as-Operand.finish_expression_operand Operand-as-Operand.displacement_tail Operand-as-Operand.parse_expression_operand Operand-as-Operand.grouped_operand Operand-as-Operand.sized_base Operand-as-Operand.unexpected Operand-as-Operand.after_expression Operand-as-Operand.parenthesised Operand-as-Operand.starts_a_base Operand-as-Operand.parse_parenthesised_operand Operand-as-Operand.special_index Operand-as-Operand.name_or_expression Operand-as-Operand.minus_operand Operand-as-Operand.operand_from Operand-as-Operand.parse_operand Operand-as-Operand.reading_of Operand-as-Records.item_record Operand-as-Records.item_records Operand-as-Records.size_d Operand-as-Records.nodes_d Operand-as-Records.size_o Operand-as-Records.nodes_o Operand-as-Records.flag Operand-as-Records.size_m Operand-as-Records.nodes_m Operand-as-Records.diagnostic_records Operand-as-Forms.sized_of Operand-as-Forms.record_of Operand-as-Layout.last_eight Operand-as-Layout.node_from Operand-as-Layout.records_laid Operand-as-Layouts.number Operand-as-Layouts.number_at Operand-as-Layouts.joined_tokens Operand-as-Layouts.token_numbers Operand-as-Layout.diagnostic_laid Operand-as-Layout.diagnostics_laid Operand-as-Layout.head_laid Operand-as-Layout.sized_part Operand-as-Layout.base_part Operand-as-Layout.index_part Operand-as-Layout.bytes_of Operand-as-Layout.answer_line Operand-as-Entry.foreign Operand-as-Layouts.longest_line Operand-as-Layouts.most_tokens Operand-as-Layouts.node_store Operand-as-Layouts.free_records Operand-as-Entry.highest_limit Operand-as-Entry.spelled_as Operand-as-Entry.prefixed Operand-as-Entry.well_spelled Operand-as-Entry.good_token Operand-as-Entry.good_tokens Operand-as-Entry.line_and_list Operand-as-Entry.start_stores_and_limit Operand-as-Entry.refusals Operand-as-Entry.first_of Operand-as-Entry.refusal digit digits value spells spelled diagnostic_bytes max_nesting_depth layout_of opening behind_opening is_frame input_of bytes_at input_bytes frame_bytes line_bytes ended answer_line
sample = refl

-- the same, wide
pub wide_sample : answer_line (bytes "w0500342861302904000200000001000700010002000000020004000800040005000000ffff")
    ≡ bytes "w0004000100000008000005000000000802000400ff000000000000000000000000ffff00000100ffffffff000001000400000000000000" ++ (10 ∷ [])
unfolding Names-as-Tokens.token_at Names-as-Tokens.detail_defined Names-as-Places.text_of Names-as-Places.placed Names-as-Places.place Names-as-Letters.lower Names-as-Letters.lowered Names-as-Letters.same Names-as-Letters.spelled Names-as-Registers.pair Names-as-Registers.register Names-as-Registers.register_of Names-as-Registers.program_counter Names-as-Registers.named Names-as-Registers.special_of Names-as-Registers.suppressing Names-as-Registers.suppressed Names-as-Registers.suppressed_of Names-as-Registers.one_of Names-as-Registers.reserved Names-as-Sizes.run_of Names-as-Sizes.letter_size Names-as-Sizes.size_of Names-as-Numbers.radix_of Names-as-Numbers.width Names-as-Numbers.figure Names-as-Numbers.scan Names-as-Numbers.digits_of Names-as-Numbers.in_base Names-as-Numbers.base_of Names-as-Numbers.number_of Expressions-as-Trees.span_e Expressions-as-Trees.with_span Expressions-as-Trees.size Records-as-Diagnostics.diagnostic_record Expressions-as-Reader.met Expressions-as-Reader.run Expressions-as-Reader.reach Expressions-as-Expressions.known Expressions-as-Expressions.suffix_run Expressions-as-Expressions.take_size_suffix Expressions-as-Expressions.precedence Expressions-as-Expressions.binary_operator Expressions-as-Expressions.operator Expressions-as-Expressions.operated Expressions-as-Expressions.parse_expression_from Expressions-as-Expressions.climbed Expressions-as-Expressions.parse_expression_of Expressions-as-Expressions.is_unary Expressions-as-Expressions.unary_operator Expressions-as-Expressions.negated Expressions-as-Expressions.plussed Expressions-as-Expressions.valued Expressions-as-Expressions.named Expressions-as-Expressions.grouped Expressions-as-Expressions.number_term Expressions-as-Expressions.leaf_term Expressions-as-Expressions.parse_prefix_term Expressions-as-Expressions.too_deep Expressions-as-Expressions.parse_prefix Expressions-as-Expressions.fuel Expressions-as-Expressions.parse_expression Expressions-as-Expressions.expression_from Records-as-Nodes.low_first Records-as-Nodes.words Expressions-as-Records.nodes Operand-as-Operand.is_address Operand-as-Operand.is_suppressed Operand-as-Operand.is_suppressed_register Operand-as-Operand.is_suppressed_address Operand-as-Operand.a_register Operand-as-Operand.an_address_register Operand-as-Operand.a_program_counter Operand-as-Operand.unmarked Operand-as-Operand.an_index Operand-as-Operand.a_base_or_an_index Operand-as-Operand.index_of Operand-as-Operand.suppressed_index Operand-as-Operand.register_from Operand-as-Operand.malformed Operand-as-Operand.unclosed Operand-as-Operand.stepped_over Operand-as-Operand.not_an_address_register Operand-as-Operand.immediate_size Operand-as-Operand.or_absent Operand-as-Operand.parse_immediate Operand-as-Operand.expect_close Operand-as-Operand.over Operand-as-Operand.or_none Operand-as-Operand.predecrement_close Operand-as-Operand.parse_predecrement Operand-as-Operand.register_expected Operand-as-Operand.ranged Operand-as-Operand.list_item Operand-as-Operand.listed Operand-as-Operand.next_item Operand-as-Operand.list_loop Operand-as-Operand.parse_register_list Operand-as-Operand.register_direct Operand-as-Operand.parse_register_operand Operand-as-Operand.scale_of Operand-as-Operand.scaled Operand-as-Operand.index_scale Operand-as-Operand.index_size Operand-as-Operand.index_register Operand-as-Operand.parse_index_register Operand-as-Operand.base_shape Operand-as-Operand.indexed_operand Operand-as-Operand.closed_base Operand-as-Operand.after_base Operand-as-Operand.closed_counter Operand-as-Operand.after_counter Operand-as-Operand.parse_base_and_index Operand-as-Operand.after_base_register Operand-as-Operand.size_or_scale Operand-as-Operand.no_base Operand-as-Operand.parse_base_and_index_registers Operand-as-Operand.closes Operand-as-Operand.starts_a_full_index Operand-as-Operand.parse_full_index Operand-as-Operand.sized Operand-as-Operand.parse_sized_displacement Operand-as-Operand.inner_displaced Operand-as-Operand.parse_inner Operand-as-Operand.outer_indexed Operand-as-Operand.outer_index Operand-as-Operand.parse_outer Operand-as-Operand.parse_memory_indirect Operand-as-Operand.absolute_size Operand-as-Operand.finish_expression_operand Operand-as-Operand.displacement_tail Operand-as-Operand.parse_expression_operand Operand-as-Operand.grouped_operand Operand-as-Operand.sized_base Operand-as-Operand.unexpected Operand-as-Operand.after_expression Operand-as-Operand.parenthesised Operand-as-Operand.starts_a_base Operand-as-Operand.parse_parenthesised_operand Operand-as-Operand.special_index Operand-as-Operand.name_or_expression Operand-as-Operand.minus_operand Operand-as-Operand.operand_from Operand-as-Operand.parse_operand Operand-as-Operand.reading_of Operand-as-Records.item_record Operand-as-Records.item_records Operand-as-Records.size_d Operand-as-Records.nodes_d Operand-as-Records.size_o Operand-as-Records.nodes_o Operand-as-Records.flag Operand-as-Records.size_m Operand-as-Records.nodes_m Operand-as-Records.diagnostic_records Operand-as-Forms.sized_of Operand-as-Forms.record_of Operand-as-Layout.last_eight Operand-as-Layout.node_from Operand-as-Layout.records_laid Operand-as-Layouts.number Operand-as-Layouts.number_at Operand-as-Layouts.joined_tokens Operand-as-Layouts.token_numbers Operand-as-Layout.diagnostic_laid Operand-as-Layout.diagnostics_laid Operand-as-Layout.head_laid Operand-as-Layout.sized_part Operand-as-Layout.base_part Operand-as-Layout.index_part Operand-as-Layout.bytes_of Operand-as-Layout.answer_line Operand-as-Entry.foreign Operand-as-Layouts.longest_line Operand-as-Layouts.most_tokens Operand-as-Layouts.node_store Operand-as-Layouts.free_records Operand-as-Entry.highest_limit Operand-as-Entry.spelled_as Operand-as-Entry.prefixed Operand-as-Entry.well_spelled Operand-as-Entry.good_token Operand-as-Entry.good_tokens Operand-as-Entry.line_and_list Operand-as-Entry.start_stores_and_limit Operand-as-Entry.refusals Operand-as-Entry.first_of Operand-as-Entry.refusal digit digits value spells spelled diagnostic_bytes max_nesting_depth layout_of opening behind_opening is_frame input_of bytes_at input_bytes frame_bytes line_bytes ended answer_line
wide_sample = refl

-- an empty input has no answer
pub empty_input : answers [] ≡ []
unfolding lines answer_lines answers
empty_input = refl

-- a wide line that is no frame is refused by a wide line; a capital opens none
pub no_wide_frames : answers (bytes "w" ++ (10 ∷ bytes "w0" ++ (10 ∷ bytes "W0000" ++ (10 ∷ bytes "w00010000"))))
    ≡ bytes "w0208" ++ (10 ∷ bytes "w0208" ++ (10 ∷ bytes "0208" ++ (10 ∷ bytes "w0208" ++ (10 ∷ []))))
unfolding Operand-as-Layouts.number_at digit digits value spells spelled layout_of opening behind_opening is_frame frame_bytes line_bytes ended answer_line onto lines answer_lines answers
no_wide_frames = refl

-- an empty line, a 0, a carriage return, a digit in upper case and an odd count are refused; the last line lacks its line feed
pub no_frames : answers (10 ∷ 0 ∷ 10 ∷ 13 ∷ 10 ∷ bytes "A0" ++ (10 ∷ bytes "000"))
    ≡ bytes "0208" ++ (10 ∷ bytes "0208" ++ (10 ∷ bytes "0208" ++ (10 ∷ bytes "0208" ++ (10 ∷ bytes "0208" ++ (10 ∷ [])))))
unfolding Operand-as-Layouts.number_at digit digits value spells spelled layout_of opening behind_opening is_frame frame_bytes line_bytes ended answer_line onto lines answer_lines answers
no_frames = refl

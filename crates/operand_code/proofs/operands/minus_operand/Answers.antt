-- `operand_code::operands::minus_operand` meets its contract.
-- Assumes nothing.
use mathlib.Core.Path.{ap}
use Rattle.std.specs.Prelude.{option_map}
use Rattle.operand_code.specs.Lookahead.{with_register}
use Rattle.operand_code.proofs.lookahead.Names.{is_a_register}
use Rattle.operand_code.proofs.operands.Returns.{predecrement_told, no_predecrement, stepped_thrice}
use Rattle.operand_code.proofs.operands.minus_operand.Goals as goal

pub returns-in_default-clause-told : goal.returns-in_default-clause-told
returns-in_default-clause-told c =
    record { told = no_predecrement _ _ _ c.predecrement_at.ensures (ap (option_map (with_register c.args.source.now.line.now)) c.in_default.is) c.parse_expression_operand.ensures.told.told }

pub parse_predecrement-requires : goal.parse_predecrement-requires
parse_predecrement-requires c =
    let w = stepped_thrice c.requires.0.0.room c.requires.1 c.predecrement_at.ensures (ap (option_map (with_register c.args.source.now.line.now)) c.in-Some.is) c.step_over.ensures c.step_over-2.ensures c.step_over-3.ensures in
    (w.room, is_a_register _ _ w.register)

pub returns-clause-told : goal.returns-clause-told
returns-clause-told c =
    let w = stepped_thrice c.requires.0.0.room c.requires.1 c.predecrement_at.ensures (ap (option_map (with_register c.args.source.now.line.now)) c.in-Some.is) c.step_over.ensures c.step_over-2.ensures c.step_over-3.ensures in
    record { told = predecrement_told _ _ c.requires.0.1 w c.parse_predecrement.ensures.told }

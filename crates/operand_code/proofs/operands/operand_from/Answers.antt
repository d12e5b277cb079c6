-- `operand_code::operands::operand_from` meets its contract.
-- Assumes nothing.
use mathlib.Core.Path.{ap}
use native.Mathlib.Omega.{arith}
use borrow.Author.Tests.{ne_eqb}
use lib.Dec.{eqb}
use Rattle.names.specs.Kinds
use Rattle.names.specs.Registers.{special_of}
use Rattle.names.specs.Reserved.{is_special}
use Rattle.operand.specs.Operand.{operand_from, name_or_expression}
use Rattle.expressions.specs.Paths.{hit, miss, seen, other}
use Rattle.operand_code.proofs.operands.Returns.{unnamed, unnamed_register}
use Rattle.operand_code.proofs.operands.Behind.{fails_stored, first_over}
use Rattle.operand_code.proofs.Rooms.{over_room}
use Rattle.operand_code.proofs.operands.operand_from.Goals as goal

pub parse_immediate-requires : goal.parse_immediate-requires
parse_immediate-requires c =
    first_over c.requires.0.0 c.requires.0.1 c.step_over.ensures c.requires.1

pub parse_parenthesised_operand-requires : goal.parse_parenthesised_operand-requires
parse_parenthesised_operand-requires c =
    first_over c.requires.0.0 c.requires.0.1 c.step_over-in-7.ensures c.requires.1

pub returns-in-6-clause-told : goal.returns-in-6-clause-told
unfolding operand_from
returns-in-6-clause-told c =
    record {
      told = seen (omega arith) c.requires.1 (ap (λ z. eqb z Kinds.comma) c.in-6.is)
          (fails_stored c.requires.0.0.room (rw (c.operand_expected.ensures, c.from.ensures)) c.raise.ensures.told c.raise.ensures.counted _);
    }

pub returns-in-5-clause-told : goal.returns-in-5-clause-told
unfolding operand_from
returns-in-5-clause-told c =
    record {
      told = other (omega arith) c.requires.1 (ap (λ z. eqb z Kinds.comma) c.in-5.is)
          (hit c.requires.1 (ap (λ z. eqb z Kinds.hash) c.in-5.is) (over_room c.requires.0.0.room c.step_over.ensures) c.parse_immediate.ensures.told.told);
    }

pub returns-in-7-clause-told : goal.returns-in-7-clause-told
unfolding operand_from
returns-in-7-clause-told c =
    record {
      told = other (omega arith) c.requires.1 (ap (λ z. eqb z Kinds.comma) c.in-7.is)
          (miss c.requires.1 (ap (λ z. eqb z Kinds.hash) c.in-7.is)
          (hit c.requires.1 (ap (λ z. eqb z Kinds.left_paren) c.in-7.is) (over_room c.requires.0.0.room c.step_over-in-7.ensures) c.parse_parenthesised_operand.ensures.told.told));
    }

pub returns-in-15-clause-told : goal.returns-in-15-clause-told
unfolding operand_from
returns-in-15-clause-told c =
    record { told = other (omega arith) c.requires.1 (ap (λ z. eqb z Kinds.comma) c.in-15.is) (miss c.requires.1 (ap (λ z. eqb z Kinds.hash) c.in-15.is) (miss c.requires.1 (ap (λ z. eqb z Kinds.left_paren) c.in-15.is) (seen (omega arith) c.requires.1 (ap (λ z. eqb z Kinds.minus) c.in-15.is) c.minus_operand.ensures.told.told))) }

pub returns-in-0-clause-told : goal.returns-in-0-clause-told
unfolding operand_from
returns-in-0-clause-told c =
    record { told = other (omega arith) c.requires.1 (ap (λ z. eqb z Kinds.comma) c.in-0.is) (miss c.requires.1 (ap (λ z. eqb z Kinds.hash) c.in-0.is) (miss c.requires.1 (ap (λ z. eqb z Kinds.left_paren) c.in-0.is) (other (omega arith) c.requires.1 (ap (λ z. eqb z Kinds.minus) c.in-0.is) c.named_operand.ensures.told.told))) }

pub returns-in_default-clause-told : goal.returns-in_default-clause-told
unfolding operand_from name_or_expression
returns-in_default-clause-told c =
    record {
      told = other (omega arith) c.requires.1 (ne_eqb _ Kinds.comma (search))
          (miss c.requires.1 (ne_eqb _ Kinds.hash (search))
          (miss c.requires.1 (ne_eqb _ Kinds.left_paren (search))
          (other (omega arith) c.requires.1 (ne_eqb _ Kinds.minus (search))
          (miss c.requires.1 (unnamed_register c.args.token _ (search))
          (miss c.requires.1 (unnamed (λ x. is_special (special_of x)) c.args.token _ (search)) c.parse_expression_operand.ensures.told.told)))));
    }

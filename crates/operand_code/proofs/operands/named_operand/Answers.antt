-- `operand_code::operands::named_operand` meets its contract.
-- Assumes nothing.
use mathlib.Core.Path.{refl, sym, ◌∙◌, ap}
use native.Mathlib.Omega.{arith}
use Rattle.std.proofs.Common.{Some}
use Rattle.names.specs.Registers.{special_of}
use Rattle.operand.specs.Operand.{name_or_expression, parse_register_operand}
use Rattle.expressions.specs.Paths.{renamed, hit, miss}
use Rattle.operand_code.proofs.lookahead.Names.{is_a_register, no_register, register_is, register_within}
use Rattle.operand_code.proofs.operands.Returns.{special_is, special_not, special_told}
use Rattle.operand_code.proofs.Rooms.{over_room, room_over}
use Rattle.operand_code.proofs.operands.named_operand.Goals as goal

pub parse_register_operand-requires : goal.parse_register_operand-requires
parse_register_operand-requires c =
    record {
      room = room_over c.requires.0.0.room c.step_over.ensures c.requires.1;
      long = omega (arith, c.requires.0.0, c.requires.0.1, c.step_over.ensures);
      none = c.step_over.ensures.nodes ∙ c.requires.0.1;
      behind = omega (arith, c.requires.0.0, c.step_over.ensures);
      small = register_within _ _ (sym c.register_at.ensures ∙ c.in-Some.is);
    }

pub returns-in-Some-clause-told : goal.returns-in-Some-clause-told
unfolding name_or_expression
returns-in-Some-clause-told c =
    let q = sym c.register_at.ensures ∙ c.in-Some.is in
    record {
      told = hit c.requires.1 (is_a_register _ _ q) (over_room c.requires.0.0.room c.step_over.ensures)
          (renamed (ap (parse_register_operand c.args.source.now.setting) (sym (register_is _ _ q))) c.parse_register_operand.ensures.told.told);
    }

pub returns-in-Some-parse-clause-told : goal.returns-in-Some-parse-clause-told
unfolding name_or_expression
returns-in-Some-parse-clause-told c =
    let e = over_room c.requires.0.0.room c.step_over-in-Some-parse.ensures in
    let q = sym (c.parse.ensures.special ∙ ap special_of c.text_of.ensures) ∙ c.in-Some-parse.is in
    record {
      told = miss c.requires.1 (no_register _ _ (sym c.register_at.ensures ∙ c.in_default.is))
          (hit c.requires.1 (special_is c.args.token _ c.requires.2 q) e
          (special_told _ c.args.out.now.counters c.args.token _ c.requires.0.1 e q (sym c.from.ensures) c.from-in-Some-parse.ensures (ap Some c.special_register.ensures, refl)));
    }

pub returns-in-None-clause-told : goal.returns-in-None-clause-told
unfolding name_or_expression
returns-in-None-clause-told c =
    let q = sym (c.parse.ensures.special ∙ ap special_of c.text_of.ensures) ∙ c.in-None.is in
    record { told = miss c.requires.1 (no_register _ _ (sym c.register_at.ensures ∙ c.in_default.is)) (miss c.requires.1 (special_not c.args.token _ c.requires.2 q) c.parse_expression_operand.ensures.told.told) }

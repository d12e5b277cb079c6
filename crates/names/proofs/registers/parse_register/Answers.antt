-- `names::registers::parse_register` meets its contract.
-- Assumes nothing.
use Rattle.std.proofs.Common.{◌≡◌, ◌≤◌, sym, ◌∙◌, false, leb, get_or, arith}
use Rattle.std.proofs.lemmas.Grind.{common_steps}
use Rattle.names.specs.Choice.{both}
use Rattle.names.proofs.Cases.{told_register}
use Rattle.names.proofs.registers.Pairs.{register_not, register_stack, register_digit, digit_out, digit_in}
use Rattle.names.proofs.registers.parse_register.Goals as goal

pub returns-in_default : goal.returns-in_default
returns-in_default c =
    told_register (sym (register_not _ (λ e. omega arith)))

pub returns-in_default-2 : goal.returns-in_default-2
returns-in_default-2 c =
    told_register (sym (register_not _ (λ e. omega arith)))

pub returns-then-spells : goal.returns-then-spells
returns-then-spells c =
    told_register (sym (register_stack _ (sym c.if-spells.ensures)))

pub returns-then-not-contains : goal.returns-then-not-contains
returns-then-not-contains c =
    let out : both (leb 48 (get_or c.args.name.now 1 0)) (leb (get_or c.args.name.now 1 0) 55) ≡ false = grind (arith, common_steps) in
    told_register (sym (register_digit _ (omega arith) (sym c.if-spells.ensures) _ c.first_of_bank-first.ensures ∙ digit_out _ _ out))

pub returns-in_err-first : goal.returns-in_err-first
returns-in_err-first c =
    told_register (c.from_residual.ensures ∙ rw (register_digit _ (omega arith) (sym c.if-spells.ensures) _ (sym c.in_err-first.was ∙ c.first_of_bank-first.ensures)))

pub returns : goal.returns
returns c =
    let low : c.new.result.start ≤ get_or c.args.name.now 1 0 = grind (arith, common_steps) in
    let high : get_or c.args.name.now 1 0 ≤ c.new.result.end = grind (arith, common_steps) in
    told_register (sym (register_digit _ (omega arith) (sym c.if-spells.ensures) _ (sym c.in_ok-first.was ∙ c.first_of_bank-first.ensures) ∙ digit_in _ _ (omega (arith, c.new.ensures.start)) (omega (arith, c.new.ensures.end))))

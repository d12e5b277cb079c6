-- `names::registers::is_reserved_name` meets its contract, by the rule of the table.
-- Assumes nothing.
use Rattle.std.proofs.Common.{sym, ◌∙◌, ap, is_some}
use borrow.Author.Tests.{lt-leb}
use Rattle.names.proofs.registers.Specials.{reserved_long, either_register, either_counter, reserved_before, reserved_special}
use Rattle.names.proofs.registers.is_reserved_name.Goals as goal
use Rattle.names.proofs.registers.is_reserved_name.Goals.{then-is_some, else-is_some}

pub returns-else-name-le4 : goal.returns-else-name-le4
returns-else-name-le4 c =
    lt-leb _ 4 c.if-name-le4.false ∙ sym (reserved_long _ c.if-name-le4.false)

pub returns-then-is_program_counter : goal.returns-then-is_program_counter
returns-then-is_program_counter c =
    let r = c.is_some.ensures ∙ ap is_some c.parse_register.ensures.register in
    reserved_before _ _ (elim c.if-is_some.branch [
      | then-is_some w ↦ w.value-is ∙ either_register _ _ r w.if-is_some.true
      | else-is_some w ↦ w.value-is ∙ w.is_program_counter.ensures ∙ either_counter _ _ r w.if-is_some.false
    ]) c.if-is_program_counter.true

pub returns-else-is_program_counter : goal.returns-else-is_program_counter
returns-else-is_program_counter c =
    let r = c.is_some.ensures ∙ ap is_some c.parse_register.ensures.register in
    c.is_some-else-is_program_counter.ensures ∙ ap is_some c.by_length.ensures
    ∙ reserved_special _ _ (elim c.if-is_some.branch [
      | then-is_some w ↦ w.value-is ∙ either_register _ _ r w.if-is_some.true
      | else-is_some w ↦ w.value-is ∙ w.is_program_counter.ensures ∙ either_counter _ _ r w.if-is_some.false
    ]) c.if-is_program_counter.false

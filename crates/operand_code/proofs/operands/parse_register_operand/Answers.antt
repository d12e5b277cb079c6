-- `operand_code::operands::parse_register_operand` meets its contract.
-- Assumes nothing.
use mathlib.Core.Path.{refl, sym, ◌∙◌, ap}
use mathlib.Core.Logic.{inl, inr}
use native.Mathlib.Omega.{arith}
use borrow.Author.Tests.{ne_eqb}
use Rattle.names.specs.Kinds
use Rattle.operand.specs.Operand.{parse_register_operand}
use Rattle.expressions.specs.Paths.{seen, other, beyond}
use Rattle.operand_code.proofs.operands.Returns.{direct_told}
use Rattle.operand_code.proofs.operands.parse_register_operand.Goals as goal
use Rattle.operand_code.proofs.operands.parse_register_operand.Goals.{in_default-via-in-Some+else-t-eq-SLASH, in_default-via-in_default}
use Rattle.std.specs.Prelude.{Some}

pub returns-in-Some-clause-told : goal.returns-in-Some-clause-told
unfolding parse_register_operand
returns-in-Some-clause-told c =
    record { told = seen (omega arith) (sym c.peek.ensures ∙ c.in-Some.is) (elim c.if-t-eq-SLASH.either [ inl e ↦ rw e | inr e ↦ rw e.1 ]) c.parse_register_list.ensures.told.told }

pub returns-in_default-clause-told : goal.returns-in_default-clause-told
unfolding parse_register_operand
returns-in_default-clause-told c =
    let d = direct_told _ _ c.requires.none (ap Some c.register_direct.ensures, refl) in
    record {
      told = elim c.in_default.branch [
        | in_default-via-in-Some+else-t-eq-SLASH w ↦ other (omega arith) (sym c.peek.ensures ∙ w.in-Some.is) (simp (ne_eqb w.in-Some.t.kind Kinds.minus w.if-t-eq-SLASH.false.0, ne_eqb w.in-Some.t.kind Kinds.slash w.if-t-eq-SLASH.false.1)) d
        | in_default-via-in_default w ↦ beyond (omega arith) (sym c.peek.ensures ∙ w.in_default.is) d
      ];
    }

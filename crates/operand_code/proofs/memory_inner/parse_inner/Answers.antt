-- `operand_code::memory_inner::parse_inner` meets its contract.
-- Assumes nothing.
use mathlib.Core.Path.{refl, sym, ◌∙◌, ap}
use native.Mathlib.Omega.{arith}
use borrow.Author.Tests.{eq-eqb, ne_eqb}
use Rattle.names.specs.Kinds
use Rattle.operand.specs.Operands.{undisplaced}
use Rattle.operand.specs.Operand.{parse_inner}
use Rattle.operand.specs.Forms.{sized_of}
use Rattle.expressions.specs.Paths.{hereby, seen, other, beyond}
use Rattle.operand_code.proofs.memory.Inners.{stored_none, inner_answered}
use Rattle.operand_code.proofs.memory_inner.parse_inner.Goals as goal
use Rattle.operand_code.proofs.memory_inner.parse_inner.Goals.{in_default-via-in-Some-2+else-is_a_base_or_an_index, in_default-via-in_default}
use Rattle.std.specs.Prelude.{Some}

pub returns-in-Some-clause-told : goal.returns-in-Some-clause-told
unfolding parse_inner sized_of
returns-in-Some-clause-told c =
    record { told = hereby (seen (omega arith) (sym c.peek.ensures ∙ c.in-Some.is) (eq-eqb _ Kinds.right_bracket c.if-t-eq-RIGHT_BRACKET.true) (inner_answered _ undisplaced refl (ap Some c.bare_inner.ensures) refl (stored_none _ _))) }

pub returns-in-Some-2-clause-told : goal.returns-in-Some-2-clause-told
unfolding parse_inner sized_of
returns-in-Some-2-clause-told c =
    let p = sym c.peek.ensures ∙ c.in-Some.is in
    record { told = hereby (other (omega arith) p (ne_eqb _ Kinds.right_bracket c.if-t-eq-RIGHT_BRACKET.false) (seen (omega arith) p (sym c.is_a_base_or_an_index.ensures ∙ c.if-is_a_base_or_an_index.true) (c.inner_registers.ensures.told.told _ _ _ undisplaced refl (stored_none _ _)))) }

pub returns-in_default-clause-told : goal.returns-in_default-clause-told
unfolding parse_inner sized_of
returns-in_default-clause-told c =
    let u = c.inner_displacement.ensures.told.told in
    record {
      told = hereby (elim c.in_default.branch [
        | in_default-via-in-Some-2+else-is_a_base_or_an_index w ↦
            let p = sym c.peek.ensures ∙ w.in-Some.is in
            other (omega arith) p (ne_eqb _ Kinds.right_bracket w.if-t-eq-RIGHT_BRACKET.false) (other (omega arith) p (sym w.is_a_base_or_an_index.ensures ∙ w.if-is_a_base_or_an_index.false) u)
        | in_default-via-in_default w ↦ let p = sym c.peek.ensures ∙ w.in_default.is in beyond (omega arith) p (beyond (omega arith) p u)
      ]);
    }

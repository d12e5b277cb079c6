-- `operand_code::bases::closed_base` meets its contract.
-- Assumes nothing.
use mathlib.Core.Path.{refl, sym, ◌∙◌}
use native.Mathlib.Omega.{arith}
use Rattle.operand_code.proofs.bases.Tails.{base_displaced, base_indirect, base_postincrement}
use Rattle.operand_code.proofs.bases.closed_base.Goals as goal

pub returns-then-is_some-clause-told : goal.returns-then-is_some-clause-told
returns-then-is_some-clause-told c =
    record { told = λ y e z. base_displaced _ _ _ y e z (sym c.is_some.ensures ∙ c.if-is_some.true) refl c.span_to-span.ensures c.plain_operand.ensures }

pub returns-in_default-clause-told : goal.returns-in_default-clause-told
returns-in_default-clause-told c =
    record { told = λ y e z. base_indirect _ _ _ y e (sym c.is_some.ensures ∙ c.if-is_some.false) refl c.span_to-span.ensures c.plain_operand-in_default.ensures c.next_of_kind.ensures c.in_default.is }

pub returns-clause-told : goal.returns-clause-told
returns-clause-told c =
    record { told = λ y e z. base_postincrement _ _ _ y e (sym c.is_some.ensures ∙ c.if-is_some.false) refl c.span_to.ensures c.plain_operand-2.ensures c.next_of_kind.ensures c.in-Some.is (omega (arith, c.requires)) }

-- `operand_code::parentheses::unexpected` meets its contract.
-- Assumes nothing.
use mathlib.Core.Path.{refl, sym, ◌∙◌}
use native.Mathlib.Omega.{arith}
use borrow.Author.Tests.{eq-eqb, ne_eqb}
use Rattle.names.specs.Kinds
use Rattle.operand.specs.Operand.{unexpected}
use Rattle.expressions.specs.Paths.{seen, other, beyond}
use Rattle.operand_code.proofs.Holdings.{nothing_told}
use Rattle.operand_code.proofs.operands.Behind.{fails_kept}
use Rattle.operand_code.proofs.parentheses.unexpected.Goals as goal

pub returns-in-None-clause-told : goal.returns-in-None-clause-told
unfolding unexpected
returns-in-None-clause-told c =
    let e = sym c.peek.ensures ∙ c.in-None.is in
    record { told = λ L y. beyond (omega arith) e (beyond (omega arith) e (fails_kept c.requires c.unclosed_parenthesis.ensures c.raise.ensures.told c.raise.ensures.counted y)) }

pub returns-in-Some-clause-told : goal.returns-in-Some-clause-told
unfolding unexpected
returns-in-Some-clause-told c =
    record { told = λ L y. seen (omega arith) (sym c.peek.ensures ∙ c.in-Some.is) (eq-eqb _ Kinds.error c.if-t-eq-ERROR.true) (nothing_told y refl refl refl) }

pub returns-in-Some-2-clause-told : goal.returns-in-Some-2-clause-told
unfolding unexpected
returns-in-Some-2-clause-told c =
    let e = sym c.peek.ensures ∙ c.in-Some.is in
    record { told = λ L y. other (omega arith) e (ne_eqb _ Kinds.error c.if-t-eq-ERROR.false) (seen (omega arith) e refl (fails_kept c.requires c.unexpected_token_in_operand.ensures c.raise-in-Some-2.ensures.told c.raise-in-Some-2.ensures.counted y)) }

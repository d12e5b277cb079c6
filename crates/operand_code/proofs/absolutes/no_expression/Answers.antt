-- `operand_code::absolutes::no_expression` meets its contract.
-- Assumes nothing.
use mathlib.Core.Path.{refl, sym, ◌∙◌}
use native.Mathlib.Omega.{arith}
use Rattle.operand.specs.Operand.{no_expression}
use Rattle.expressions.specs.Paths.{seen, beyond}
use Rattle.operand_code.proofs.operands.Behind.{fails_kept}
use Rattle.operand_code.proofs.absolutes.no_expression.Goals as goal

pub returns-in-Some-clause-told : goal.returns-in-Some-clause-told
unfolding no_expression
returns-in-Some-clause-told c =
    record { told = λ L y. seen (omega arith) (sym c.peek.ensures ∙ c.in-Some.is) refl (fails_kept c.requires c.unexpected_token_in_operand.ensures c.raise.ensures.told c.raise.ensures.counted y) }

pub returns-in-None-clause-told : goal.returns-in-None-clause-told
unfolding no_expression
returns-in-None-clause-told c =
    record { told = λ L y. beyond (omega arith) (sym c.peek.ensures ∙ c.in-None.is) (fails_kept c.requires (rw (c.operand_expected.ensures, c.empty.ensures)) c.raise-in-None.ensures.told c.raise-in-None.ensures.counted y) }

-- `operand_code::full::after_base_register` meets its contract.
-- Assumes nothing.
use mathlib.Core.Path.{refl, sym, ◌∙◌}
use Rattle.operand.specs.Operand.{after_base_register}
use Rattle.expressions.specs.Paths.{answered, hereby, passed, unseen}
use Rattle.operand_code.proofs.full.after_base_register.Goals as goal

pub returns-then-is_an_index_at-clause-told : goal.returns-then-is_an_index_at-clause-told
unfolding after_base_register
returns-then-is_an_index_at-clause-told c =
    hereby (passed (sym c.is_an_index_at.ensures ∙ c.if-is_an_index_at.true) (λ k x. c.comma_and_index.ensures.told))

pub returns-clause-told : goal.returns-clause-told
unfolding after_base_register
returns-clause-told c =
    hereby (unseen (sym c.is_an_index_at.ensures ∙ c.if-is_an_index_at.false) (answered refl refl refl))

-- `operand_code::full::no_base` meets its contract.
-- Assumes nothing.
use mathlib.Core.Path.{refl, sym, ◌∙◌}
use native.Mathlib.Nat.{add-zero}
use Rattle.records.specs.Problems
use Rattle.operand.specs.Operand.{no_base}
use Rattle.expressions.specs.Paths.{hereby, passed, unseen, over_same}
use Rattle.operand_code.proofs.malformed.Failures.{failed_over}
use Rattle.operand_code.proofs.full.no_base.Goals as goal

pub returns-then-is_an_index_at-clause-told : goal.returns-then-is_an_index_at-clause-told
unfolding no_base
returns-then-is_an_index_at-clause-told c =
    hereby (passed (rw (add-zero _) (sym c.is_an_index_at.ensures) ∙ c.if-is_an_index_at.true) (λ k x. c.with_index.ensures.told))

pub returns-clause-told : goal.returns-clause-told
unfolding no_base
returns-clause-told c =
    hereby (unseen (rw (add-zero _) (sym c.is_an_index_at.ensures) ∙ c.if-is_an_index_at.false) (failed_over _ _ Problems.base_or_index_missing c.stepped_over.ensures.told refl refl (over_same c.stepped_over.ensures.told)))

-- `operand_code::indexes::scaled` meets its contract.
-- Assumes nothing.
use mathlib.Core.Path.{refl, sym, ◌∙◌}
use Rattle.records.specs.Problems
use Rattle.operand.specs.Operand.{scaled, scale_of}
use Rattle.expressions.specs.Paths.{answered, chosen, unchosen, raised_same}
use Rattle.operand_code.proofs.malformed.Failures.{failed_malformed}
use Rattle.operand_code.proofs.indexes.scaled.Goals as goal

pub returns-then-not-is_scale-clause-told : goal.returns-then-not-is_scale-clause-told
unfolding scaled
returns-then-not-is_scale-clause-told c =
    unchosen (scale_of _) _ (sym c.is_scale.ensures ∙ c.if-not-is_scale.true) (failed_malformed _ _ Problems.bad_scale c.malformed.ensures.told refl refl (raised_same c.malformed.ensures.told))

pub returns-clause-told : goal.returns-clause-told
unfolding scaled
returns-clause-told c =
    chosen (scale_of _) _ (sym c.is_scale.ensures ∙ c.if-not-is_scale.false) (answered refl refl refl)

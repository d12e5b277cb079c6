-- `operand_code::bases::base_shape` meets its contract.
-- Assumes nothing.
use mathlib.Core.Path.{◌∙◌}
use Rattle.operand_code.proofs.bases.Tails.{shape_of}
use Rattle.operand_code.proofs.bases.base_shape.Goals as goal

pub returns-in-Some : goal.returns-in-Some
returns-in-Some c =
    λ y e. shape_of y _ (e ∙ c.in-Some.is)

pub returns-in-None : goal.returns-in-None
returns-in-None c =
    λ y e. shape_of y _ (e ∙ c.in-None.is)

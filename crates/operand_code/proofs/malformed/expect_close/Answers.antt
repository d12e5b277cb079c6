-- `operand_code::malformed::expect_close` meets its contract.
-- Assumes nothing.
use mathlib.Core.Path.{refl, ◌∙◌}
use native.Mathlib.Omega.{arith}
use Rattle.operand.specs.Operand.{expect_close}
use Rattle.records.specs.Problems
use Rattle.expressions.specs.Paths.{answered, hit_next, miss_next, raised_same}
use Rattle.operand_code.proofs.malformed.Failures.{failed_unclosed}
use Rattle.operand_code.proofs.malformed.expect_close.Goals as goal

pub returns-in_default-clause-told : goal.returns-in_default-clause-told
unfolding expect_close
returns-in_default-clause-told c =
    let h = c.next_of_kind.ensures in
    miss_next h c.in_default.is (failed_unclosed _ _ _ Problems.paren_missing c.unclosed.ensures.told refl refl (raised_same c.unclosed.ensures.told ∙ h.nodes))

pub returns-clause-told : goal.returns-clause-told
unfolding expect_close
returns-clause-told c =
    let h = c.next_of_kind.ensures in
    hit_next h c.in-Some.is (omega (arith, c.requires)) (answered refl refl h.nodes)

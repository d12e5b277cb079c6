-- `operand_code::malformed::stepped_over` meets its contract.
-- Assumes nothing.
use mathlib.Core.Path.{sym, ◌∙◌}
use native.Mathlib.Omega.{arith}
use Rattle.records.specs.Counters.{over_is}
use Rattle.records.specs.Spans.{span, no_span}
use Rattle.records.specs.Diagnostics.{malformed_operand}
use Rattle.records.specs.Problems
use Rattle.records.specs.Shapes
use Rattle.expressions.specs.Told.{over, ended}
use Rattle.expressions.specs.Paths.{raised_at}
use Rattle.operand_code.proofs.malformed.stepped_over.Goals as goal
use Rattle.operand_code.proofs.malformed.stepped_over.Goals.{in-Some, in_default}

pub returns-clause-told : goal.returns-clause-told
returns-clause-told c =
    elim c.match-peek.branch [
      | in-Some w ↦ over _ (sym c.peek.ensures ∙ w.in-Some.is) (raised_at (λ l. malformed_operand (Shapes.number c.args.shape) (Problems.number c.args.problem) (span c.args.source.now.setting.start l) no_span) (over_is (omega (arith, c.requires)) w.step_over.ensures) (rw w.out-is at c.malformed.ensures.told))
      | in_default w ↦ ended (sym c.peek.ensures ∙ w.in_default.is) (rw w.out-is at c.malformed.ensures.told)
    ]

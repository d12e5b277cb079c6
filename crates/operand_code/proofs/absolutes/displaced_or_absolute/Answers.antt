-- `operand_code::absolutes::displaced_or_absolute` meets its contract.
-- Assumes nothing.
use mathlib.Core.Path.{◌∙◌, ap}
use native.Mathlib.Omega.{arith}
use Rattle.std.specs.Prelude.{option_map}
use Rattle.operand.specs.Operand.{displacement_tail}
use Rattle.expressions.specs.Paths.{hit_next, miss_next}
use Rattle.operand.specs.Operands.{displaced}
use Rattle.operand_code.proofs.bases.Tails.{kept_from}
use Rattle.operand_code.proofs.operands.Behind.{base_behind}
use Rattle.operand_code.proofs.absolutes.displaced_or_absolute.Goals as goal

pub returns-in_default-clause-told : goal.returns-in_default-clause-told
unfolding displacement_tail
returns-in_default-clause-told c =
    let h = c.opening_at.ensures.next in
    record { told = λ e n v. miss_next h (ap (option_map _) c.in_default.is) (kept_from (displaced e 0) h.nodes (c.finish_expression_operand.ensures.told.told e (h.nodes ∙ n) v)) }

pub returns-clause-told : goal.returns-clause-told
unfolding displacement_tail
returns-clause-told c =
    let h = c.opening_at.ensures.next in
    record { told = λ e n v. hit_next h (ap (option_map _) c.in-Some.is) (omega (arith, c.requires)) (base_behind e n (c.opening_at.ensures.tree _ c.in-Some.is) h.nodes c.parse_base_and_index.ensures.told) }

-- `operand_code::bases::after_base` meets its contract.
-- Assumes nothing.
use mathlib.Core.Path.{sym, ◌∙◌}
use native.Mathlib.Omega.{arith}
use Rattle.records.specs.Problems
use Rattle.operand_code.specs.Bases.{behind_base}
use Rattle.expressions.specs.Paths.{hit_next, miss_next}
use Rattle.operand_code.proofs.Next.{hit_some, miss_some}
use Rattle.operand_code.proofs.bases.Tails.{kept_from, unclosed_told}
use Rattle.operand_code.proofs.bases.Opened.{plain_with}
use Rattle.operand_code.proofs.bases.after_base.Goals as goal

pub returns-in-Some-clause-told : goal.returns-in-Some-clause-told
unfolding behind_base
returns-in-Some-clause-told c =
    let h = c.next_of_kind.ensures in
    record { told = λ y e z. hit_next h c.in-Some.is (omega (arith, c.requires)) (kept_from y h.nodes (c.closed.ensures.told.told y e z)) }

pub returns-then-is_some-clause-told : goal.returns-then-is_some-clause-told
unfolding behind_base
returns-then-is_some-clause-told c =
    let h = c.next_of_kind.ensures in
    let i = c.next_of_kind-2.ensures in
    record { told = λ y e z. miss_next h c.in_default.is (hit_some i (sym c.is_some.ensures ∙ c.if-is_some.true) (omega (arith, c.requires, h)) λ k w. kept_from y (i.nodes ∙ h.nodes) (c.base_and_index.ensures.told.told y e _ (plain_with c.args.base y e))) }

pub returns-clause-told : goal.returns-clause-told
unfolding behind_base
returns-clause-told c =
    let h = c.next_of_kind.ensures in
    let i = c.next_of_kind-2.ensures in
    record { told = λ y e z. miss_next h c.in_default.is (miss_some i (sym c.is_some.ensures ∙ c.if-is_some.false) (kept_from y (i.nodes ∙ h.nodes) (unclosed_told _ _ Problems.paren_missing y (c.open_shape-shape.ensures y e) c.unclosed.ensures.told))) }

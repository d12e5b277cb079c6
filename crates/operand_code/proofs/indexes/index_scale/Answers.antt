-- `operand_code::indexes::index_scale` meets its contract.
-- Assumes nothing.
use mathlib.Core.Path.{refl}
use native.Mathlib.Omega.{arith}
use Rattle.records.specs.Problems
use Rattle.operand.specs.Operand.{index_scale}
use Rattle.expressions.specs.Paths.{answered, same, miss_next, hit_next}
use Rattle.operand_code.proofs.malformed.Failures.{failed_over_same}
use Rattle.operand_code.proofs.Next.{hit_some, miss_some}
use Rattle.operand_code.proofs.indexes.index_scale.Goals as goal

pub returns-then-is_none-clause-told : goal.returns-then-is_none-clause-told
unfolding index_scale
returns-then-is_none-clause-told c =
    let h = c.next_of_kind.ensures in
    miss_some h c.if-is_none.ensures (answered refl refl h.nodes)

pub returns-in_default-clause-told : goal.returns-in_default-clause-told
unfolding index_scale
returns-in_default-clause-told c =
    let h = c.next_of_kind.ensures in
    let i = c.next_of_kind-2.ensures in
    hit_some h c.if-is_none.ensures (omega (arith, c.requires)) λ k w. same h.nodes (miss_next i c.in_default.is (same i.nodes (failed_over_same _ _ Problems.bad_scale c.stepped_over.ensures.told)))

pub returns-clause-told : goal.returns-clause-told
unfolding index_scale
returns-clause-told c =
    let h = c.next_of_kind.ensures in
    let i = c.next_of_kind-2.ensures in
    hit_some h c.if-is_none.ensures (omega (arith, c.requires)) λ k w. same h.nodes (hit_next i c.in-Some.is (omega (arith, c.requires, h)) (same i.nodes c.index_scale_value.ensures.told))

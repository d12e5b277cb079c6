-- `operand_code::full::comma_and_index` meets its contract.
-- Assumes nothing.
use mathlib.Core.Path.{refl}
use native.Mathlib.Omega.{arith}
use Rattle.expressions.specs.Paths.{answered, same}
use Rattle.operand_code.proofs.Next.{hit_some, miss_some}
use Rattle.operand_code.proofs.full.comma_and_index.Goals as goal

pub returns-then-is_none-clause-told : goal.returns-then-is_none-clause-told
returns-then-is_none-clause-told c =
    let h = c.next_of_kind.ensures in
    miss_some h c.if-is_none.ensures (answered refl refl h.nodes)

pub returns-clause-told : goal.returns-clause-told
returns-clause-told c =
    let h = c.next_of_kind.ensures in
    hit_some h c.if-is_none.ensures (omega (arith, c.requires)) λ k w. (same h.nodes c.with_index.ensures.told)

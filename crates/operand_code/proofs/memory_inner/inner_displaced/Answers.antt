-- `operand_code::memory_inner::inner_displaced` meets its contract.
-- Assumes nothing.
use mathlib.Core.Path.{refl, ap}
use native.Mathlib.Omega.{arith}
use Rattle.operand.specs.Operand.{inner_displaced}
use Rattle.operand_code.proofs.Next.{hit_some, miss_some}
use Rattle.operand_code.proofs.memory.Inners.{stored_on, inner_answered}
use Rattle.operand_code.proofs.memory_inner.inner_displaced.Goals as goal
use Rattle.std.specs.Prelude.{Some}

pub returns-then-is_none-clause-told : goal.returns-then-is_none-clause-told
unfolding inner_displaced
returns-then-is_none-clause-told c =
    let h = c.next_of_kind.ensures in
    record { told = λ N N' n y e st. miss_some h c.if-is_none.ensures (inner_answered _ y e (ap Some c.bare_inner.ensures) refl (stored_on st h.nodes)) }

pub returns-clause-told : goal.returns-clause-told
unfolding inner_displaced
returns-clause-told c =
    let h = c.next_of_kind.ensures in
    record { told = λ N N' n y d st. hit_some h c.if-is_none.ensures (omega (arith, c.requires)) λ k w. (c.inner_registers.ensures.told.told N N' n y d (stored_on st h.nodes)) }

-- `operand_code::memory_outer::outer_indexed` meets its contract.
-- Assumes nothing.
use mathlib.Core.Path.{refl}
use native.Mathlib.Omega.{arith}
use Rattle.operand.specs.Operands.{undisplaced}
use Rattle.operand.specs.Operand.{outer_indexed}
use Rattle.operand.specs.Forms.{sized_of}
use Rattle.operand_code.proofs.Next.{hit_some, miss_some}
use Rattle.operand_code.proofs.memory.Inners.{stored_none, stored_on, outer_answered, outer_from}
use Rattle.operand_code.proofs.memory_outer.outer_indexed.Goals as goal

pub returns-then-is_none-clause-told : goal.returns-then-is_none-clause-told
unfolding outer_indexed sized_of
returns-then-is_none-clause-told c =
    let h = c.next_of_kind.ensures in
    record { told = miss_some h c.if-is_none.ensures (outer_answered _ 2 undisplaced refl refl refl (stored_on (stored_none _ c.args.out.now.counters) h.nodes)) }

pub returns-clause-told : goal.returns-clause-told
unfolding outer_indexed sized_of
returns-clause-told c =
    let h = c.next_of_kind.ensures in
    record { told = hit_some h c.if-is_none.ensures (omega (arith, c.requires)) λ k w. (outer_from h.nodes c.outer_displaced.ensures.told) }

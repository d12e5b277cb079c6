-- `operand_code::memory_outer::parse_outer` meets its contract.
-- Assumes nothing.
use mathlib.Core.Path.{refl, sym, ◌∙◌}
use native.Mathlib.Omega.{arith}
use Rattle.operand.specs.Operands.{undisplaced}
use Rattle.operand.specs.Operand.{parse_outer}
use Rattle.operand.specs.Forms.{sized_of}
use Rattle.operand_code.proofs.Next.{hit_some, miss_some}
use Rattle.operand_code.proofs.memory.Inners.{stored_none, stored_on, outer_answered, outer_from, outer_index_here, outer_no_index}
use Rattle.operand_code.proofs.memory_outer.parse_outer.Goals as goal

pub returns-then-is_none-clause-told : goal.returns-then-is_none-clause-told
unfolding parse_outer sized_of
returns-then-is_none-clause-told c =
    let h = c.next_of_kind.ensures in
    record { told = miss_some h c.if-is_none.ensures (outer_answered _ 1 undisplaced refl refl refl (stored_on (stored_none _ c.args.out.now.counters) h.nodes)) }

pub returns-then-is_an_index_at-clause-told : goal.returns-then-is_an_index_at-clause-told
unfolding parse_outer sized_of
returns-then-is_an_index_at-clause-told c =
    let h = c.next_of_kind.ensures in
    record { told = hit_some h c.if-is_none.ensures (omega (arith, c.requires)) λ k w. (outer_from h.nodes (outer_index_here _ _ _ (sym c.is_an_index_at.ensures ∙ c.if-is_an_index_at.true) c.outer_index.ensures.told)) }

pub returns-clause-told : goal.returns-clause-told
unfolding parse_outer sized_of
returns-clause-told c =
    let h = c.next_of_kind.ensures in
    record { told = hit_some h c.if-is_none.ensures (omega (arith, c.requires)) λ k w. (outer_from h.nodes (outer_no_index _ _ _ (sym c.is_an_index_at.ensures ∙ c.if-is_an_index_at.false) c.outer_displaced.ensures.told)) }

-- `operand_code::memory::parse_memory_indirect` meets its contract.
-- Assumes nothing.
use mathlib.Core.Path.{refl, sym, ◌∙◌, ap}
use native.Mathlib.Omega.{arith}
use Rattle.operand.specs.Operand.{parse_memory_indirect, or_none}
use Rattle.operand_code.specs.Operands.{HeldBy}
use Rattle.operand_code.specs.Memory.{inner_of}
use Rattle.records.specs.Problems
use Rattle.records.specs.Shapes
use Rattle.expressions.specs.Paths.{held_as, bound}
use Rattle.operand_code.proofs.Next.{hit_some, miss_some}
use Rattle.operand_code.proofs.malformed.Failures.{failed_unclosed, stopped_by}
use Rattle.operand_code.proofs.memory.Inners.{inner_room, stored_on, stored_first}
use Rattle.operand_code.proofs.Rooms.{map_is, map_not}
use Rattle.operand_code.proofs.memory.parse_memory_indirect.Goals as goal

pub returns-in_err-n-clause-told : goal.returns-in_err-n-clause-told
unfolding parse_memory_indirect or_none HeldBy
returns-in_err-n-clause-told c =
    let t = c.parse_inner.ensures.told.told in
    record { told = stopped_by _ t (map_not _ _ (sym t.what ∙ c.in_err-n.was)) c.from_residual.ensures tt }

pub unclosed-requires : goal.unclosed-requires
unclosed-requires c =
    let t = c.parse_inner.ensures.told in
    omega (arith, (inner_room _ c.requires.0 t (map_is _ _ (sym t.told.what ∙ c.in_ok-n.was)).is (omega (arith, c.parse_inner.auto))).room, c.next_of_kind.ensures)

pub returns-then-is_none-clause-told : goal.returns-then-is_none-clause-told
unfolding parse_memory_indirect or_none HeldBy
returns-then-is_none-clause-told c =
    let t = c.parse_inner.ensures.told.told in
    let x = map_is _ _ (sym t.what ∙ c.in_ok-n.was) in
    record { told = bound t x.is (miss_some c.next_of_kind.ensures c.if-is_none.ensures (failed_unclosed _ _ Shapes.memory_indirect Problems.bracket_missing c.unclosed.ensures.told refl refl tt)) }

pub after_inner-requires : goal.after_inner-requires
after_inner-requires c =
    let t = c.parse_inner.ensures.told in
    let h = inner_room _ c.requires.0 t (map_is _ _ (sym t.told.what ∙ c.in_ok-n.was)).is (omega (arith, c.parse_inner.auto)) in
    omega (arith, h, c.next_of_kind.ensures)

pub returns-clause-told : goal.returns-clause-told
unfolding parse_memory_indirect or_none HeldBy
returns-clause-told c =
    let t = c.parse_inner.ensures.told in
    let x = map_is _ _ (sym t.told.what ∙ c.in_ok-n.was) in
    let h = inner_room _ c.requires.0 t x.is (omega (arith, c.parse_inner.auto)) in
    record {
      told = bound t.told x.is
          (hit_some c.next_of_kind.ensures c.if-is_none.ensures (omega (arith, h)) λ k w.
          (c.after_inner.ensures.told.told x.part (ap (λ m. inner_of m x.part) (sym c.requires.1) ∙ x.form) (stored_on (stored_first c.requires.1 (held_as t.told x.is)) c.next_of_kind.ensures.nodes)));
    }

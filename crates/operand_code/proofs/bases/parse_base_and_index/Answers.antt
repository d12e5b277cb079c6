-- `operand_code::bases::parse_base_and_index` meets its contract.
-- Assumes nothing.
use mathlib.Core.Path.{refl, sym, ◌∙◌}
use Rattle.operand.specs.Operand.{parse_base_and_index}
use Rattle.records.specs.Problems
use Rattle.expressions.specs.Paths.{hit, miss, done}
use Rattle.operand_code.proofs.bases.Tails.{kept_from, unclosed_told, register_told}
use Rattle.operand_code.proofs.bases.Opened.{no_unsuppressed, opened}
use Rattle.operand_code.proofs.Rooms.{over_room, room_over}
use Rattle.operand_code.proofs.bases.parse_base_and_index.Goals as goal

pub returns-in_default-clause-told : goal.returns-in_default-clause-told
unfolding parse_base_and_index
returns-in_default-clause-told c =
    let p = sym c.peek.ensures ∙ c.in_default.is in
    record { told = λ y e z. done p (done p (done p (unclosed_told _ _ Problems.base_missing y (c.base_shape-shape.ensures y e) c.unclosed.ensures.told))) }

pub returns-in_default-unsuppressed_base-clause-told : goal.returns-in_default-unsuppressed_base-clause-told
unfolding parse_base_and_index
returns-in_default-unsuppressed_base-clause-told c =
    let p = sym c.peek.ensures ∙ c.in-Some.is in
    let n = no_unsuppressed _ _ (sym c.unsuppressed_base.ensures ∙ c.in_default-unsuppressed_base.is) in
    record { told = λ y e z. miss p n.0 (miss p n.1 (hit p refl (over_room c.requires c.step_over.ensures) (register_told _ _ y c.step_over.ensures.nodes (c.base_shape-shape.ensures y e) c.not_an_address_register.ensures.told))) }

pub after_base-requires : goal.after_base-requires
after_base-requires c =
    room_over c.requires c.step_over.ensures (sym c.peek.ensures ∙ c.in-Some.is)

pub returns-clause-told : goal.returns-clause-told
returns-clause-told c =
    record { told = λ y e z. opened _ _ y _ (sym c.peek.ensures ∙ c.in-Some.is) (sym c.unsuppressed_base.ensures ∙ c.in-Some-unsuppressed_base.is) (over_room c.requires c.step_over.ensures) (kept_from y c.step_over.ensures.nodes (c.after_base.ensures.told.told y e z)) }

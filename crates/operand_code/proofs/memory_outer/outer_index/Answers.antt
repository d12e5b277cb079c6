-- `operand_code::memory_outer::outer_index` meets its contract.
-- Assumes nothing.
use Rattle.records.specs.Problems
use Rattle.records.specs.Shapes
use mathlib.Core.Path.{refl, sym, ◌∙◌}
use Rattle.operand.specs.Operand.{or_none}
use Rattle.expressions.specs.Paths.{bound}
use Rattle.operand_code.proofs.malformed.Failures.{failed_over, stopped}
use Rattle.operand_code.proofs.Rooms.{index_room}
use Rattle.operand_code.proofs.memory.Inners.{same_room, outer_from, outer_twice, outer_once}
use Rattle.operand_code.proofs.memory_outer.outer_index.Goals as goal

pub returns-then-is_some-clause-told : goal.returns-then-is_some-clause-told
unfolding or_none
returns-then-is_some-clause-told c =
    record { told = outer_twice _ _ (sym c.is_some.ensures ∙ c.if-is_some.true) (failed_over _ Shapes.memory_indirect Problems.index_twice c.stepped_over.ensures.told refl refl tt) }

pub returns-in_err-x-clause-told : goal.returns-in_err-x-clause-told
unfolding or_none
returns-in_err-x-clause-told c =
    let t = c.parse_index_register.ensures.told in
    record { told = outer_once _ _ (sym c.is_some.ensures ∙ c.if-is_some.false) (stopped _ t c.in_err-x.was c.from_residual.ensures tt) }

pub outer_indexed-requires : goal.outer_indexed-requires
outer_indexed-requires c =
    let t = c.parse_index_register.ensures.told in
    same_room c.requires t (index_room _ _ c.requires.room t c.in_ok-x.was)

pub returns-clause-told : goal.returns-clause-told
unfolding or_none
returns-clause-told c =
    let t = c.parse_index_register.ensures.told in
    record { told = outer_once _ _ (sym c.is_some.ensures ∙ c.if-is_some.false) (bound t (sym t.what ∙ c.in_ok-x.was) (outer_from t.held c.outer_indexed.ensures.told)) }

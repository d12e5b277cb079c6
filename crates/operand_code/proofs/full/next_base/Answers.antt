-- `operand_code::full::next_base` meets its contract.
-- Assumes nothing.
use mathlib.Core.Path.{refl, sym, ◌∙◌}
use Rattle.operand_code.specs.Lookahead.{hits, misses, ends}
use Rattle.operand_code.proofs.Rooms.{over_room}
use Rattle.operand_code.proofs.full.next_base.Goals as goal

pub returns-in_err-t : goal.returns-in_err-t
returns-in_err-t c =
    ends (sym c.peek.ensures ∙ c.in_err-t.was) c.from_residual.ensures refl

pub returns-in_err-base : goal.returns-in_err-base
returns-in_err-base c =
    misses _ (sym c.peek.ensures ∙ c.in_ok-t.was) (sym c.base_at.ensures ∙ c.in_err-base.was) c.from_residual-in_err-base.ensures refl

pub returns : goal.returns
returns c =
    hits _ _ (sym c.peek.ensures ∙ c.in_ok-t.was) (sym c.base_at.ensures ∙ c.in_ok-base.was) refl (over_room c.requires c.step_over.ensures)

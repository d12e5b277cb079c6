-- `operand_code::lists::next_register` meets its contract.
-- Assumes nothing.
use mathlib.Core.Path.{refl, sym, ◌∙◌}
use Rattle.operand_code.specs.Lookahead.{hits, misses, ends}
use Rattle.operand_code.proofs.Rooms.{over_room}
use Rattle.operand_code.proofs.lists.next_register.Goals as goal

pub returns-in_err-t : goal.returns-in_err-t
returns-in_err-t c =
    ends (sym c.peek.ensures ∙ c.in_err-t.was) c.from_residual.ensures refl

pub returns-in_default : goal.returns-in_default
returns-in_default c =
    misses _ (sym c.peek.ensures ∙ c.in_ok-t.was) (sym c.register_at.ensures ∙ c.in_default.is) refl refl

pub returns : goal.returns
returns c =
    hits _ _ (sym c.peek.ensures ∙ c.in_ok-t.was) (sym c.register_at.ensures ∙ c.in-Some.is) refl (over_room c.requires c.step_over.ensures)

-- `operand_code::indexes::next_index` meets its contract.
-- Assumes nothing.
use mathlib.Core.Path.{refl, sym, ◌∙◌}
use Rattle.operand_code.specs.Lookahead.{hits, misses, ends}
use Rattle.operand_code.proofs.Rooms.{over_room}
use Rattle.operand_code.proofs.indexes.next_index.Goals as goal

pub returns-in_err-t : goal.returns-in_err-t
returns-in_err-t c =
    ends (sym c.peek.ensures ∙ c.in_err-t.was) c.from_residual.ensures refl

pub returns-in_err-index : goal.returns-in_err-index
returns-in_err-index c =
    misses _ (sym c.peek.ensures ∙ c.in_ok-t.was) (sym c.index_at.ensures ∙ c.in_err-index.was) c.from_residual-in_err-index.ensures refl

pub returns : goal.returns
returns c =
    hits _ _ (sym c.peek.ensures ∙ c.in_ok-t.was) (sym c.index_at.ensures ∙ c.in_ok-index.was) refl (over_room c.requires c.step_over.ensures)

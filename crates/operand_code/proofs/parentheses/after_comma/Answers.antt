-- `operand_code::parentheses::after_comma` meets its contract.
-- Assumes nothing.
use mathlib.Core.Path.{sym, ◌∙◌}
use Rattle.operand_code.proofs.lookahead.Starts.{full_starts, full_not}
use Rattle.operand_code.proofs.parentheses.after_comma.Goals as goal

pub returns-then-starts_a_full_index-clause-told : goal.returns-then-starts_a_full_index-clause-told
returns-then-starts_a_full_index-clause-told c =
    record { told = λ y e z. full_starts _ _ _ (sym c.starts_a_full_index.ensures ∙ c.if-starts_a_full_index.true) (c.parse_full_index.ensures.told.told y e) }

pub returns-clause-told : goal.returns-clause-told
returns-clause-told c =
    record { told = λ y e z. full_not _ _ _ (sym c.starts_a_full_index.ensures ∙ c.if-starts_a_full_index.false) (c.parse_base_and_index.ensures.told.told y e z) }

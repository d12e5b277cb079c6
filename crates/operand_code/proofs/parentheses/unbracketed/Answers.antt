-- `operand_code::parentheses::unbracketed` meets its contract.
-- Assumes nothing.
use mathlib.Core.Path.{refl, sym, ◌∙◌}
use Rattle.operand.specs.Operands.{undisplaced}
use Rattle.operand.specs.Forms.{sized_of}
use Rattle.operand_code.specs.Operands.{Unsized}
use Rattle.operand_code.proofs.lookahead.Starts.{full_starts, full_not, base_starts_lem, base_not}
use Rattle.operand_code.proofs.Holdings.{unstored_told}
use Rattle.operand_code.proofs.parentheses.unbracketed.Goals as goal

pub returns-then-starts_a_full_index-clause-told : goal.returns-then-starts_a_full_index-clause-told
unfolding sized_of Unsized
returns-then-starts_a_full_index-clause-told c =
    record { told = full_starts _ _ _ (sym c.starts_a_full_index.ensures ∙ c.if-starts_a_full_index.true) (unstored_told _ c.requires.1 (c.parse_full_index.ensures.told.told undisplaced refl)) }

pub returns-then-starts_a_base-clause-told : goal.returns-then-starts_a_base-clause-told
unfolding sized_of Unsized
returns-then-starts_a_base-clause-told c =
    record { told = full_not _ _ _ (sym c.starts_a_full_index.ensures ∙ c.if-starts_a_full_index.false) (base_starts_lem _ _ (sym c.starts_a_base.ensures ∙ c.if-starts_a_base.true) (unstored_told _ c.requires.1 (c.parse_base_and_index.ensures.told.told undisplaced refl tt))) }

pub returns-clause-told : goal.returns-clause-told
unfolding sized_of Unsized
returns-clause-told c =
    record { told = full_not _ _ _ (sym c.starts_a_full_index.ensures ∙ c.if-starts_a_full_index.false) (base_not _ _ (sym c.starts_a_base.ensures ∙ c.if-starts_a_base.false) c.parenthesised.ensures.told.told) }

-- `operand_code::suffixes::size_behind` meets its contract.
-- Assumes nothing.
use mathlib.Core.Path.{◌∙◌}
use Rattle.operand_code.proofs.suffixes.size_behind.Goals as goal

pub returns-clause-told : goal.returns-clause-told
returns-clause-told c =
    record { suffix = c.take_size_suffix.result; told = c.take_size_suffix.ensures.told; is = c.unwrap_or.ensures ∙ rw c.empty.ensures }

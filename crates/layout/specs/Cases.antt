-- The numbers of an answer's cases.
-- Assumes nothing.
use Rattle.std.specs.Prelude.{ℕ}
use Rattle.operand.specs.Layout.{operand_number, no_operand_number, refused_number}
use Rattle.layout.specs.declared.answer.Case.{Case}

-- the number of each
abbrev pub number : Case → ℕ
number Case.Operand = operand_number
number Case.NoOperand = no_operand_number
number Case.Refused = refused_number

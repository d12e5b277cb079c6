-- The buyer's second condition, as theorems over the definition. What they lean on is in Spelled.antt and Answered.antt.
-- Assumes nothing.
use Rattle.std.specs.Prelude.{◌≡◌, [], ℕ, Option, Some}
use Rattle.expressions.specs.Reader.{Reading}
use Rattle.operand.specs.Operands.{Operand}

-- the operand y, the cursor at j, and no diagnostic
pub record Answers (r : Reading (Option Operand)) (y : Operand) (j : ℕ) : Type 0 where
  pub value : r.value ≡ Some y
  pub cursor : r.cursor ≡ j
  pub raised : r.raised ≡ []

-- Condition 2, of what the entry returns and writes: it follows from its promise, and from Conditions.antt.
-- Assumes nothing.
use Rattle.std.specs.Prelude.{◌≡◌, List, ℕ, Some, Result, Ok}
use Rattle.operand.specs.Operands.{Operand}
use Rattle.operand.specs.Records.{size_m}
use Rattle.operand.specs.Entry.{Input, nodes_after}
use Rattle.operand.specs.Forms.{record_of}
use Rattle.operand.specs.declared.refusals.Refusal.{Refusal}
use Rattle.layout.specs.declared.answer.Answer.{Answer}

-- the operand y up to the place j, its nodes, and no diagnostic
pub record Returns (a : Input) (N' D' : List ℕ) (r : Result Answer Refusal) (y : Operand) (j : ℕ) : Type 0 where
  pub answer : r ≡ Ok (record { operand = Some (record_of y); cursor = j; nodes = size_m (Some y); diagnostics = 0 })
  pub nodes : N' ≡ nodes_after a.layout (Some y) a.nodes
  pub diagnostics : D' ≡ a.diagnostics

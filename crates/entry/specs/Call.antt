-- What the functions within the crate ask and tell.
-- Assumes nothing.
use Rattle.std.specs.Prelude.{◌≡◌, List, ℕ, ◌+◌, ◌*◌, ◌≤◌, Option}
use Rattle.names.specs.Tokens.{count}
use Rattle.records.specs.declared.counters.Counters.{Counters}
use Rattle.operand.specs.declared.layouts.Layout.{Layout}
use Rattle.operand.specs.Layouts.{token_numbers}
use Rattle.operand.specs.Entry.{line_and_list, first_of}
use Rattle.layout.specs.declared.answer.Answer.{Answer}
use Rattle.layout.specs.Nodes.{nodes_encoded}
use Rattle.layout.specs.Diagnostics.{diagnostics_encoded}
use Rattle.operand.specs.declared.forms.OperandRecord.{OperandRecord}
use Rattle.operand.specs.declared.forms.OperandStep.{OperandStep}

-- neither the line nor the list is refused, and the call's own stores have room for whatever is read of it: so many numbers for its tokens, for a node of each
-- token, and for a diagnostic of each and one more
pub record StoresAsk (w : Layout) (L T : List ℕ) (list records reports : ℕ) : Type 0 where
  pub passed : first_of (line_and_list w L T) ≡ 0
  pub tokens : 4 * count (token_numbers w T) ≤ list
  pub nodes : 10 * count (token_numbers w T) ≤ records
  pub diagnostics : 10 * (count (token_numbers w T) + 1) ≤ reports

-- what is read, as it is answered
unfoldable pub answer_of : Option OperandRecord → Counters → Answer
answer_of x c = record { operand = x; cursor = c.at; nodes = c.nodes; diagnostics = c.diagnostics }

-- and its records are in the lent stores
pub record AnswerTold (w : Layout) (s : OperandStep) (records reports N D N' D' : List ℕ) (used : ℕ) (r : Answer) : Type 0 where
  pub answer : r ≡ answer_of s.operand s.counters
  pub nodes : N' ≡ nodes_encoded w records s.counters.nodes N
  pub diagnostics : D' ≡ diagnostics_encoded w reports s.counters.diagnostics D used

-- What the entry promises: its answer and every byte of both stores are the definition's, at the nesting limit that it is given.
-- Assumes nothing.
use Rattle.std.specs.Prelude.{◌≡◌, refl, List, ℕ, zero, suc, length, Option, Some, None, Result, Ok, Err, option_map}
use Rattle.expressions.specs.Reader.{Reading}
use Rattle.operand.specs.Operands.{Operand}
use Rattle.operand.specs.Records.{size_m}
use Rattle.operand.specs.Entry.{Input, reading_at, refusal, answer_of, answer_number, outcome, outcome_number}
use Rattle.operand.specs.Entry as E
use Rattle.operand.specs.Forms.{record_of}
use Rattle.operand.specs.RefusalNumbers
use Rattle.operand.specs.declared.refusals.Refusal.{Refusal}
use Rattle.operand.specs.declared.forms.OperandRecord.{OperandRecord}
use Rattle.operand.specs.declared.layouts.Layout.{Layout}
use Rattle.operand.specs.Layout.{bytes_of}
use Rattle.layout.specs.declared.answer.Answer.{Answer}

-- ---- the answer

-- the definition's answer for the code's: the record as its bytes, and the mask
abbrev pub given_read : Layout → Answer → Option OperandRecord → E.Answer
given_read w x (Some o) = E.operand (bytes_of w o) x.cursor x.nodes x.diagnostics o.mask
given_read w x None = E.no_operand x.cursor x.diagnostics

unfoldable pub given : Layout → Result Answer Refusal → E.Answer
given w (Ok x) = given_read w x x.operand
given w (Err k) = E.refused (RefusalNumbers.number k)

-- the code's answer for a reading
unfoldable pub result_of : Reading (Option Operand) → Option Operand → Answer
result_of r v = record { operand = option_map record_of v; cursor = r.cursor; nodes = size_m v; diagnostics = length r.raised }

-- and for an input that is refused by this number, or by 0 for none
unfoldable pub result_at : Input → ℕ → Result Answer Refusal
result_at a zero = let r = reading_at a in Ok (result_of r r.value)
result_at a (suc k) = Err (RefusalNumbers.numbered (suc k))

pub given_result : (w : Layout) (r : Reading (Option Operand)) (v : Option Operand) → given w (Ok (result_of r v)) ≡ answer_of w r v
unfolding given result_of answer_of
given_result w r (Some x) = refl
given_result w r None = refl

-- ---- the promise

-- every byte, and the number of the answer's case. The last: the record's bytes alone would leave open whether FF is an absent part
pub record EntryPromise (a : Input) (N' D' : List ℕ) (r : Result Answer Refusal) : Type 0 where
  pub answer : given a.layout r ≡ (outcome a).answer
  pub number : answer_number (given a.layout r) ≡ outcome_number a
  pub nodes : N' ≡ (outcome a).nodes
  pub diagnostics : D' ≡ (outcome a).diagnostics
  pub value : r ≡ result_at a (refusal a)

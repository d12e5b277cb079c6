-- What an exported call gives: the entry's outcome, with the answer as 27 bytes in a lent store, or as 39 in the wide layout.
-- Assumes nothing.
use Rattle.std.specs.Prelude.{◌≡◌, refl, List, [], ◌++◌, ℕ, ◌+◌, ltb, length, replicate}
use Rattle.names.specs.Choice.{pick}
use Rattle.records.specs.Nodes.{low_first}
use Rattle.records.specs.Stores.{written}
use Rattle.operand.specs.Entry.{Input, Outcome, outcome}
use Rattle.operand.specs.Entry as Entry
use Rattle.operand.specs.declared.layouts.Layout.{Layout}
use Rattle.operand.specs.Layouts.{operand_size}
use Rattle.layout.specs.Head.{head_size}
use Rattle.operand.specs.Layout.{head_laid, operand_number, no_operand_number}

-- the number that is returned: 0 with an answer, else the refusal's
unfoldable pub number_of : Entry.Answer → ℕ
number_of (Entry.operand x cursor n d mask) = 0
number_of (Entry.no_operand cursor d) = 0
number_of (Entry.refused k) = k

-- the beginning as in the program's line; the operand's record, and the mask (low first). Without an operand these are 0. A refusal writes nothing
unfoldable pub answer_laid : Layout → Entry.Answer → List ℕ
answer_laid w (Entry.operand x cursor n d mask) = head_laid w operand_number cursor n d ++ (x ++ low_first 2 mask)
answer_laid w (Entry.no_operand cursor d) = head_laid w no_operand_number cursor 0 d ++ replicate (operand_size w + 2) 0
answer_laid w (Entry.refused k) = []

-- the answer store afterwards
unfoldable pub out_after : Layout → Entry.Answer → List ℕ → List ℕ
out_after w x O = written O 0 (answer_laid w x)

-- the number and the three stores afterwards
pub record Exported : Type 0 where
  pub number : ℕ
  pub nodes : List ℕ
  pub diagnostics : List ℕ
  pub out : List ℕ

abbrev pub told : ℕ → List ℕ → List ℕ → List ℕ → Exported
told k N D O = record { number = k; nodes = N; diagnostics = D; out = O }

unfoldable pub answered : Layout → Outcome → List ℕ → Exported
answered w x O = told (number_of x.answer) x.nodes x.diagnostics (out_after w x.answer O)

-- the bytes of an answer
abbrev pub answer_bytes : Layout → ℕ
answer_bytes Layout.Narrow = 27
answer_bytes Layout.Wide = 39

-- the beginning, the record and the mask
pub answer_bytes_lem : (w : Layout) → head_size w + (operand_size w + 2) ≡ answer_bytes w
answer_bytes_lem Layout.Narrow = refl
answer_bytes_lem Layout.Wide = refl

-- the number of a store that is too short for them: the library's own, far from the papers' numbers
abbrev pub short_answer : ℕ
short_answer = 255

-- such a store is refused before all else
unfoldable pub exported : Input → List ℕ → Exported
exported a O = pick (ltb (length O) (answer_bytes a.layout)) (told short_answer a.nodes a.diagnostics O) (answered a.layout (outcome a) O)

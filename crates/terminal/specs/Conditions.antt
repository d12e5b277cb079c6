-- The buyer's conditions, of what the exported call returns and writes. They follow from the entry's (layout `Answers`, spelling `Answers`), as the number
-- and the bytes are its answer. Words in quotes are document 01's.
-- Assumes nothing.
use Rattle.std.specs.Prelude.{◌≡◌, List, ℕ, ◌+◌, ◌*◌, ◌≤◌, ◌<◌, length, take, get_or, Result}
use Rattle.std.proofs.Math.ListN.{drop}
use Rattle.names.specs.Places.{Place}
use Rattle.operand.specs.declared.layouts.Layout.{Layout}
use Rattle.operand.specs.Layouts.{width, joined, number_at, node_size, diagnostic_size}
use Rattle.operand.specs.Layout.{operand_number, no_operand_number}
use Rattle.operand.specs.Entry.{Input, refusal}
use Rattle.operand.specs.Conditions.{Valid, Refuses, record_at, SameButPlus}
use Rattle.layout.specs.Promise.{given}
use Rattle.operand.specs.declared.refusals.Refusal.{Refusal}
use Rattle.layout.specs.declared.answer.Answer.{Answer}
use Rattle.terminal.specs.Exported.{Exported, told, out_after, answer_bytes, short_answer, exported}

-- ---- what a caller finds in the answer store

-- 0 for an operand, 1 for none
abbrev pub kind_in : List ℕ → ℕ
kind_in O = get_or O 0 0

abbrev pub cursor_in : Layout → List ℕ → ℕ
cursor_in w O = number_at w O 1

abbrev pub nodes_in : Layout → List ℕ → ℕ
nodes_in w O = number_at w O (1 + width w)

-- of two bytes in both layouts
abbrev pub added_in : Layout → List ℕ → ℕ
added_in w O = joined (get_or O (1 + 2 * width w) 0) (get_or O (2 + 2 * width w) 0)

-- ---- every call

-- an operand or none where no refusal applies; else the number of the first that does, before them the library's own. "It returns its number; all lent bytes
-- stay."
pub data Total (a : Input) (O : List ℕ) (x : Exported) : Type 0 where
  operand : Valid a → answer_bytes a.layout ≤ length O → x.number ≡ 0 → kind_in x.out ≡ operand_number → Total a O x
  no_operand : Valid a → answer_bytes a.layout ≤ length O → x.number ≡ 0 → kind_in x.out ≡ no_operand_number → Total a O x
  refused : answer_bytes a.layout ≤ length O → x.number ≡ refusal a → Refuses x.number → x ≡ told x.number a.nodes a.diagnostics O → Total a O x
  short : length O < answer_bytes a.layout → x.number ≡ short_answer → x ≡ told x.number a.nodes a.diagnostics O → Total a O x

-- ---- condition 3

-- the bytes of the added diagnostics
abbrev pub added_records : Input → List ℕ → List ℕ
added_records a O =
    take (diagnostic_size a.layout * added_in a.layout (exported a O).out) (drop (diagnostic_size a.layout * a.used) (exported a O).diagnostics)

-- the same number, the same bytes of the answer, the same records of the used nodes and of the added diagnostics
pub record SameBytes (a b : Input) (O P : List ℕ) : Type 0 where
  pub number : (exported a O).number ≡ (exported b P).number
  pub answer : take (answer_bytes a.layout) (exported a O).out ≡ take (answer_bytes b.layout) (exported b P).out
  pub nodes : take (node_size a.layout * nodes_in a.layout (exported a O).out) (exported a O).nodes ≡ take (node_size b.layout * nodes_in b.layout (exported b P).out) (exported b P).nodes
  pub diagnostics : added_records a O ≡ added_records b P

-- but for a kind 13 with its plus at this place, which is the same in all but its kind
pub record SameBytesButPlus (w : Place) (a b : Input) (O P : List ℕ) : Type 0 where
  pub number : (exported a O).number ≡ (exported b P).number
  pub answer : take (answer_bytes a.layout) (exported a O).out ≡ take (answer_bytes b.layout) (exported b P).out
  pub nodes : take (node_size a.layout * nodes_in a.layout (exported a O).out) (exported a O).nodes ≡ take (node_size b.layout * nodes_in b.layout (exported b P).out) (exported b P).nodes
  pub diagnostics : (i : ℕ)
      → SameButPlus a.layout w (record_at a.layout (added_records a O) i) (record_at a.layout (added_records b P) i)

-- ---- both layouts

-- "A line that satisfies both has the same answer in both, layout and refusal 20 aside" (document 02): of two calls with the same line, tokens, start, mark and
-- limit, in whichever layouts, each of which satisfies its own and has room for its answer. The number is the same; and what is answered is one value, each time
-- in the layout's bytes
pub record OneAnswer (a b : Input) (O P : List ℕ) : Type 0 where
  pub number : (exported a O).number ≡ (exported b P).number
  pub answer : Result Answer Refusal
  pub answers : ((exported a O).out ≡ out_after a.layout (given a.layout answer) O) × ((exported b P).out ≡ out_after b.layout (given b.layout answer) P)

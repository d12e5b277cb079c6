-- What the functions within the crate tell each other.
-- Assumes nothing.
use Rattle.std.specs.Prelude.{◌≡◌, true, false, List, [], ◌++◌, ℕ, ◌+◌, ◌*◌, ◌≤◌, length, take, Option, Some, None, Result, Ok, Err}
use Rattle.names.specs.Choice.{pick}
use Rattle.records.specs.Stores.{written}
use Rattle.operand.specs.RefusalNumbers
use Rattle.operand.specs.declared.layouts.Layout.{Layout}
use Rattle.operand.specs.declared.refusals.Refusal.{Refusal}
use Rattle.operand.specs.Layouts.{node_size, diagnostic_size, most_tokens, node_store, free_records}
use Rattle.operand.specs.Layout.{bytes_of, head_laid, operand_number, no_operand_number}
use Rattle.operand.specs.declared.forms.OperandRecord.{OperandRecord}
use Rattle.layout.specs.declared.answer.Answer.{Answer}
use Rattle.frames.specs.declared.output.Output.{Output}
use Rattle.frames.specs.Hex.{value, is_digit, spells, spelled}
use Rattle.frames.specs.Frame.{diagnostic_bytes, line_length, frame_length}
use Rattle.frames.specs.Reply.{refused, line_bytes}
use Rattle.frames.specs.Machine.{State, held_on, carry_on}

-- the bytes y from a place of the output on, and the next place
pub record Put (O O' : List ℕ) (at : ℕ) (y : List ℕ) (r : ℕ) : Type 0 where
  pub next : r ≡ at + length y
  pub kept : length O' ≡ length O
  pub out : O' ≡ written O at y

-- the bytes y behind what is filled
abbrev pub Wrote : Output → Output → List ℕ → Type 0
Wrote o o' y = Put o.bytes.now o'.bytes.now o.filled y o'.filled

-- the value of a digit, none for every other character
abbrev pub digit_value : ℕ → Option ℕ
digit_value c = pick (is_digit c) (Some (value c)) None

-- the bytes that a line spells, at the beginning of a store
pub record Spelled (x S : List ℕ) (n : ℕ) : Type 0 where
  pub good : spells x ≡ true
  pub count : n ≡ length (spelled x)
  pub bytes : take n S ≡ spelled x

unfoldable pub DecodedAs : List ℕ → List ℕ → Option ℕ → Type 0
DecodedAs x S (Some n) = Spelled x S n
DecodedAs x S None = spells x ≡ false

-- ---- answers

-- the number of the case, and the operand's bytes
abbrev pub case_of : Option OperandRecord → ℕ
case_of (Some x) = operand_number
case_of None = no_operand_number

abbrev pub record_bytes : Layout → Option OperandRecord → List ℕ
record_bytes w (Some x) = bytes_of w x
record_bytes w None = []

-- they stand at the beginning of a store
pub record RecordPut (w : Layout) (x : Option OperandRecord) (S : List ℕ) (n : ℕ) : Type 0 where
  pub few : n ≤ 30
  pub bytes : take n S ≡ record_bytes w x

-- the node records and the diagnostic records are those at the beginning of the stores
unfoldable pub answer_bytes : Layout → Answer → List ℕ → List ℕ → List ℕ
answer_bytes w x N D =
    head_laid w (case_of x.operand) x.cursor x.nodes x.diagnostics
    ++ (record_bytes w x.operand ++ (take (node_size w * x.nodes) N ++ take (diagnostic_size w * x.diagnostics) D))

pub record AnswerAsks (w : Layout) (o : Output) (x : Answer) (N D : List ℕ) : Type 0 where
  pub room : o.filled + 102408 ≤ length o.bytes.now
  pub nodes_few : x.nodes ≤ most_tokens w
  pub nodes_long : length N ≡ node_store w
  pub diagnostics_few : x.diagnostics ≤ free_records w
  pub diagnostics_long : length D ≡ diagnostic_bytes w

-- the stores that an answer is made in, and room for the bytes that a line spells
pub record ReadDigitsAsk (w : Layout) (x F N D : List ℕ) : Type 0 where
  pub fits : length x ≤ 2 * length F
  pub nodes_long : length N ≡ node_store w
  pub diagnostics_long : length D ≡ diagnostic_bytes w

-- and room for the longest answer
pub record DigitsAsk (w : Layout) (x F N D : List ℕ) (o : Output) : Type 0 where
  pub stores : ReadDigitsAsk w x F N D
  pub room : o.filled + 102408 ≤ length o.bytes.now

-- an answer's records are in the stores, and its bytes are the line's answer
pub record AnswerTold (w : Layout) (x N D : List ℕ) (a : Answer) : Type 0 where
  pub nodes_few : a.nodes ≤ most_tokens w
  pub diagnostics_few : a.diagnostics ≤ free_records w
  pub bytes : answer_bytes w a N D ≡ line_bytes w x

unfoldable pub ReadTold : Layout → List ℕ → List ℕ → List ℕ → Result Answer Refusal → Type 0
ReadTold w x N D (Ok a) = AnswerTold w x N D a
ReadTold w x N D (Err k) = refused (RefusalNumbers.number k) ≡ line_bytes w x

-- the bytes are a frame, whose line has this length
pub record ReadAsks (w : Layout) (B : List ℕ) (line : ℕ) : Type 0 where
  pub first : line ≡ line_length w B
  pub whole : length B ≡ frame_length w B

-- whether the bytes are a frame
unfoldable pub FramedAs : Layout → List ℕ → Option ℕ → Type 0
FramedAs w B (Some line) = ReadAsks w B line
FramedAs w B None = length B ≡ frame_length w B → ⊥

-- ---- a part of the input

pub record HoldTold (C : List ℕ) (held b : ℕ) (C' : List ℕ) (r : ℕ) : Type 0 where
  pub next : r ≡ held_on held
  pub carry : C' ≡ carry_on C held b

abbrev pub state : ℕ → ℕ → ℕ → List ℕ → List ℕ → State
state consumed held filled C O = record { consumed = consumed; held = held; filled = filled; carry = C; out = O }

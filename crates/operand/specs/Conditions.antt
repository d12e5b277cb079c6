-- The buyer's conditions, as theorems over the definition. Words in quotes are document 01's; what the theorems lean on is in Readings.antt and Fuel.antt.
-- Assumes nothing.
use Rattle.std.specs.Prelude.{◌≡◌, Bool, true, false, List, ℕ, ◌+◌, ◌*◌, ◌≤◌, eqb, length, take, drop, get_or, Option, Some, None}
use Rattle.names.specs.Choice.{pick, both, either}
use Rattle.names.specs.Places.{Place, nothing, stands}
use Rattle.records.specs.DiagnosticKinds
use Rattle.expressions.specs.Reader.{Reading}
use Rattle.operand.specs.Operands.{Operand}
use Rattle.operand.specs.Records.{size_m}
use Rattle.operand.specs.Layout.{nodes_laid, diagnostics_laid, operand_record}
use Rattle.operand.specs.RefusalNumbers
use Rattle.operand.specs.declared.layouts.Layout.{Layout}
use Rattle.operand.specs.Layouts.{width, number_at, diagnostic_size}
use Rattle.operand.specs.Entry.{Input, place_of, refusal}

-- "An input is what a call lends and gives; it is valid if no refusal of the table applies to it."
abbrev pub Valid : Input → Type 0
Valid a = refusal a ≡ 0

-- a refusal's number: 1 to 7, or 18
pub data Refuses (n : ℕ) : Type 0 where
  early : (1 ≤ n) × (n ≤ RefusalNumbers.short_diagnostics) → Refuses n
  late : n ≡ RefusalNumbers.bad_limit → Refuses n

-- ---- condition 3

-- "Two inputs are alike at a place if both lists have a token there with the same kind, detail, start and end, over the same bytes of their lines,
-- or if neither list has one."
abbrev pub AlikeAt : Input → Input → ℕ → Type 0
AlikeAt a b j = place_of a j ≡ place_of b j

-- the operand's record, or none
abbrev pub record_m : Layout → Option Operand → Option (List ℕ)
record_m w (Some x) = Some (operand_record w x)
record_m w None = None

-- "Answers are the same if both have an operand, with the same record, or both have none; the cursor is the same; as many nodes are used, with the same
-- records; and as many diagnostics are added, the same records in the same order." The records are those of a layout
pub record SameAnswer (w : Layout) (r q : Reading (Option Operand)) : Type 0 where
  pub operand : record_m w r.value ≡ record_m w q.value
  pub cursor : r.cursor ≡ q.cursor
  pub nodes_used : size_m r.value ≡ size_m q.value
  pub nodes : nodes_laid w r.value ≡ nodes_laid w q.value
  pub added : length r.raised ≡ length q.raised
  pub diagnostics : diagnostics_laid w r.raised ≡ diagnostics_laid w q.raised

-- what two inputs have in common that are given the same start, mark and limit, and are alike from the start through a place
pub record AlikeThrough (a b : Input) (last : ℕ) : Type 0 where
  pub start : a.start ≡ b.start
  pub mark : a.mark ≡ b.mark
  pub limit : a.limit ≡ b.limit
  pub places : (j : ℕ) → a.start ≤ j → j ≤ last → AlikeAt a b j

-- ---- condition 3 with its exception

-- the i-th of some diagnostic records
abbrev pub record_at : Layout → List ℕ → ℕ → List ℕ
record_at w D i = take (diagnostic_size w) (drop (diagnostic_size w * i) D)

-- a record of kind 13, PlusIsNotAUnaryOperator, whose plus is the token at this place
unfoldable pub plus_at : Layout → Place → List ℕ → Bool
plus_at w nothing x = false
plus_at w (stands t y) x =
    both (eqb (get_or x 0 0) DiagnosticKinds.plus_is_not_a_unary_operator) (both (eqb (number_at w x 3) t.start) (eqb (number_at w x (3 + width w)) t.end))

-- the same record; or, where one is such a plus, the same in all but the kind, which is its first byte
pub data SameButPlus (w : Layout) (p : Place) (x y : List ℕ) : Type 0 where
  same : x ≡ y → SameButPlus w p x y
  plus : either (plus_at w p x) (plus_at w p y) ≡ true → drop 1 x ≡ drop 1 y → SameButPlus w p x y

-- the same answers but for a kind 13 with its plus at this place
pub record SameAnswerButPlus (w : Layout) (p : Place) (r q : Reading (Option Operand)) : Type 0 where
  pub operand : record_m w r.value ≡ record_m w q.value
  pub cursor : r.cursor ≡ q.cursor
  pub nodes_used : size_m r.value ≡ size_m q.value
  pub nodes : nodes_laid w r.value ≡ nodes_laid w q.value
  pub added : length r.raised ≡ length q.raised
  pub diagnostics : (i : ℕ) → SameButPlus w p (record_at w (diagnostics_laid w r.raised) i) (record_at w (diagnostics_laid w q.raised) i)

-- how far past the cursor document 02 asks for agreement: one token where there is no operand, and two at limit 1
unfoldable pub further : ℕ → Option Operand → ℕ
further limit (Some x) = 0
further limit None = pick (eqb limit 1) 2 1

-- What the program answers to one input line.
-- Assumes nothing.
use Rattle.std.specs.Prelude.{List, [], ◌∷◌, ◌++◌, ℕ, zero, suc}
use Rattle.names.specs.Choice.{pick}
use Rattle.operand.specs.RefusalNumbers
use Rattle.operand.specs.Entry.{Input, refusal, reading_at}
use Rattle.operand.specs.declared.layouts.Layout as L
use Rattle.operand.specs.Layout as Layout
use Rattle.frames.specs.Hex.{digits, spells, spelled}
use Rattle.frames.specs.Frame.{layout_of, opening, behind_opening, is_frame, input_of}

-- 02 and the number of the refusal
abbrev pub refused : ℕ → List ℕ
refused n = Layout.refused_number ∷ n ∷ []

-- by the number of the refusal, 0 for none: the reading's bytes
unfoldable pub bytes_at : Input → ℕ → List ℕ
bytes_at a zero = let r = reading_at a in Layout.answer_line a.layout r r.value
bytes_at a (suc k) = refused (suc k)

-- of an input that is a frame's
unfoldable pub input_bytes : Input → List ℕ
input_bytes a = bytes_at a (refusal a)

-- of the bytes that a line spells: "Checked 8, then 1 to 7", and 18
unfoldable pub frame_bytes : L.Layout → List ℕ → List ℕ
frame_bytes w B = pick (is_frame w B) (input_bytes (input_of w B)) (refused RefusalNumbers.bad_frame)

-- of the characters behind a line's opening
unfoldable pub line_bytes : L.Layout → List ℕ → List ℕ
line_bytes w x = pick (spells x) (frame_bytes w (spelled x)) (refused RefusalNumbers.bad_frame)

-- a line of hexadecimal as its layout opens, with its line feed
unfoldable pub ended : L.Layout → List ℕ → List ℕ
ended w bytes = opening w ++ (digits bytes ++ (10 ∷ []))

-- the answer's layout is the line's, whatever the answer is
unfoldable pub answer_line : List ℕ → List ℕ
answer_line x = let w = layout_of x in ended w (line_bytes w (behind_opening w x))

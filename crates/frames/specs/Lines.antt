-- A whole input: its lines, and their answers in order.
-- Assumes nothing.
use Rattle.std.specs.Prelude.{List, [], ◌∷◌, ◌++◌, ℕ, eqb}
use Rattle.names.specs.Choice.{pick}
use Rattle.frames.specs.Reply.{answer_line}

-- a byte before the first line
unfoldable pub onto : ℕ → List (List ℕ) → List (List ℕ)
onto b [] = (b ∷ []) ∷ []
onto b (x ∷ xs) = (b ∷ x) ∷ xs

-- a line ends at a line feed (10) or at the input's end; nothing follows the last line feed
unfoldable pub lines : List ℕ → List (List ℕ)
lines [] = []
lines (b ∷ bs) = pick (eqb b 10) ([] ∷ lines bs) (onto b (lines bs))

unfoldable pub answer_lines : List (List ℕ) → List ℕ
answer_lines [] = []
answer_lines (x ∷ xs) = answer_line x ++ answer_lines xs

-- what the program writes for an input
unfoldable pub answers : List ℕ → List ℕ
answers input = answer_lines (lines input)

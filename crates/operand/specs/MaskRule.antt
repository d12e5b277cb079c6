-- The rule of the mask: each bit says whether the list names that register.
-- Assumes nothing.
use Rattle.std.specs.Prelude.{Bool, false, List, [], ◌∷◌, ℕ, ◌/◌, ◌%◌, ◌^◌, eqb, leb}
use Rattle.names.specs.Choice.{both, either}
use Rattle.operand.specs.Operands.{RegisterListItem, single, range}

-- a bit of a number
abbrev pub bit : ℕ → ℕ → ℕ
bit n b = n / 2 ^ b % 2

-- whether an item names the register with this mask index
unfoldable pub names : RegisterListItem → ℕ → Bool
names (single r) b = eqb b r.index
names (range r q s) b = both (leb r.index b) (leb b q.index)

unfoldable pub list_names : List RegisterListItem → ℕ → Bool
list_names [] b = false
list_names (x ∷ xs) b = either (names x b) (list_names xs b)

-- Lower-case hexadecimal: the digits of bytes, and the bytes that characters spell.
-- Assumes nothing.
use Rattle.std.specs.Prelude.{Bool, true, false, List, [], ◌∷◌, ℕ, ◌+◌, ◌-◌, ◌*◌, ◌/◌, ◌%◌, leb, ltb}
use Rattle.names.specs.Choice.{pick, both}

-- `0` is 48, `a` is 97
unfoldable pub digit : ℕ → ℕ
digit n = pick (ltb n 10) (48 + n) (87 + n)

-- two digits a byte, the high one first
unfoldable pub digits : List ℕ → List ℕ
digits [] = []
digits (b ∷ bs) = digit (b / 16) ∷ digit (b % 16) ∷ digits bs

-- the value of a digit, 16 for every other character
unfoldable pub value : ℕ → ℕ
value c = pick (both (leb 48 c) (leb c 57)) (c - 48) (pick (both (leb 97 c) (leb c 102)) (c - 87) 16)

abbrev pub is_digit : ℕ → Bool
is_digit c = ltb (value c) 16

-- an even number of digits and nothing else
unfoldable pub spells : List ℕ → Bool
spells [] = true
spells (c ∷ []) = false
spells (c ∷ d ∷ cs) = both (both (is_digit c) (is_digit d)) (spells cs)

-- the bytes of an even number of digits
unfoldable pub spelled : List ℕ → List ℕ
spelled [] = []
spelled (c ∷ []) = []
spelled (c ∷ d ∷ cs) = (16 * value c + value d) ∷ spelled cs

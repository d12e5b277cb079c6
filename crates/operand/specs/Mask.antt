-- The sixteen-bit mask of a register list: bit 0 for D0 up to bit 15 for A7. A falling range adds none.
-- Assumes nothing.
use Rattle.std.specs.Prelude.{List, [], ◌∷◌, ℕ, zero, suc, ◌+◌, ◌-◌, ◌^◌}
use Rattle.std.specs.Int.Bits.{bit_or}
use Rattle.operand.specs.Operands.{RegisterListItem, single, range}

-- n bits from the bit r on
unfoldable pub bits_from : ℕ → ℕ → ℕ
bits_from r zero = 0
bits_from r (suc n) = bit_or (2 ^ r) (bits_from (suc r) n)

unfoldable pub item_bits : RegisterListItem → ℕ
item_bits (single r) = 2 ^ r.index
item_bits (range r q s) = bits_from r.index (q.index + 1 - r.index)

unfoldable pub mask : List RegisterListItem → ℕ
mask [] = 0
mask (x ∷ xs) = bit_or (item_bits x) (mask xs)

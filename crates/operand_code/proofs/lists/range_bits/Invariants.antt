-- `operand_code::lists::range_bits` meets its contract. The loop's invariant: the bits so far and those from i on are all.
-- Assumes nothing.
use mathlib.Core.Path.{◌≡◌}
use Prim.Native.Nat.{◌+◌, ◌-◌}
use lib.Bits.{bit_or}
use Rattle.operand.specs.Mask.{bits_from}
use Rattle.operand_code.proofs.lists.range_bits.Given as goal

abbrev pub invariant-loop-i : goal.invariant-loop-i
invariant-loop-i l = bit_or l.bits (bits_from l.i (l.to + 1 - l.i)) ≡ bits_from l.from (l.to + 1 - l.from)

-- `names::numbers::parse_digits` meets its contract. The loop's invariant: the value stays at 2^63, and the rest of the digits, read on from the value, give what all of them give.
-- Assumes nothing.
use Rattle.std.proofs.Common.{◌≡◌, ◌≤◌, ◌^◌, drop}
use Rattle.names.specs.Numbers.{scan}
use Rattle.names.proofs.numbers.parse_digits.Given as goal

abbrev pub invariant-loop-byte : goal.invariant-loop-byte
invariant-loop-byte l = (l.value ≤ 2 ^ 63) × (scan l.radix l.value (drop l.byte-index l.digits) ≡ scan l.radix 0 l.digits)

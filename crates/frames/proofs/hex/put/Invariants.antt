-- `frames::hex::put` meets its contract. The loop's invariant: the digits of the first i bytes are written.
-- Assumes nothing.
use Rattle.std.proofs.Common.{◌≡◌, take}
use Rattle.records.specs.Stores.{written}
use Rattle.frames.specs.Hex.{digits}
use Rattle.frames.proofs.hex.put.Given as goal

abbrev pub invariant-loop-i : goal.invariant-loop-i
invariant-loop-i l = l.out ≡ written l.initial.out l.at (digits (take l.i l.bytes))

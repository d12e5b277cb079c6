-- `frames::hex::decode` meets its contract. The loop's invariant: the bytes of the first i pairs are in the store, and the rest spells bytes just where the whole does.
-- Assumes nothing.
use Rattle.std.proofs.Common.{◌≡◌, ◌++◌, ◌*◌, take, drop}
use Rattle.frames.specs.Hex.{spells, spelled}
use Rattle.frames.proofs.hex.decode.Given as goal

abbrev pub invariant-loop-i : goal.invariant-loop-i
invariant-loop-i l = (spells (drop (2 * l.i) l.line) ≡ spells l.line) × (take l.i l.store ++ spelled (drop (2 * l.i) l.line) ≡ spelled l.line)

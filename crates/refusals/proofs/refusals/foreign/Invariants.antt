-- `refusals::refusals::foreign` meets its contract. The loop's invariant: what was seen and what is left together have a foreign byte just where the line has.
-- Assumes nothing.
use Rattle.std.proofs.Common.{◌≡◌, drop}
use Rattle.names.specs.Choice.{either}
use Rattle.operand.specs.Entry.{foreign}
use Rattle.refusals.proofs.refusals.foreign.Given as goal

abbrev pub invariant-loop-byte : goal.invariant-loop-byte
invariant-loop-byte l = either l.found (foreign (drop l.byte-index l.line)) ≡ foreign l.line

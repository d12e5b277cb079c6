-- `decoding::tokens::put_wide` meets its contract. The loop's invariant: the first i tokens are decoded.
-- Assumes nothing.
use Rattle.std.proofs.Common.{◌≡◌, ◌*◌, take}
use Rattle.records.specs.Stores.{written}
use Rattle.operand.specs.Layouts.{joined_tokens}
use Rattle.decoding.proofs.tokens.put_wide.Given as goal

abbrev pub invariant-loop-i : goal.invariant-loop-i
invariant-loop-i l = l.numbers ≡ written l.initial.numbers 0 (take (4 * l.i) (joined_tokens l.tokens))

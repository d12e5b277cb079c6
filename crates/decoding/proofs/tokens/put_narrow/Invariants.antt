-- `decoding::tokens::put_narrow` meets its contract. The loop's invariant: the first i bytes stand there.
-- Assumes nothing.
use mathlib.Core.Path.{◌≡◌}
use lib.Seq.{paste}
use Rattle.decoding.proofs.tokens.put_narrow.Given as goal

abbrev pub invariant-loop-i : goal.invariant-loop-i
invariant-loop-i l = l.numbers ≡ paste l.initial.numbers 0 l.tokens l.i

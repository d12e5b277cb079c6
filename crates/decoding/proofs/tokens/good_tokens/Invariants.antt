-- `decoding::tokens::good_tokens` meets its contract. The loop's invariant: the tokens looked at and those left together are good just where all are.
-- Assumes nothing.
use mathlib.Core.Path.{◌≡◌}
use Prim.Native.Nat.{◌*◌}
use lib.ListN.{drop}
use Rattle.names.specs.Choice.{both}
use Rattle.operand.specs.Entry.{good_tokens}
use Rattle.decoding.proofs.tokens.good_tokens.Given as goal

abbrev pub invariant-loop-kind : goal.invariant-loop-kind
invariant-loop-kind l = both l.good (good_tokens l.line l.last (drop (4 * l.kind-index) l.numbers)) ≡ good_tokens l.line 0 l.numbers

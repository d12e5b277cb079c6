-- `decoding::tokens::put_narrow` meets its contract.
-- Assumes nothing.
use mathlib.Core.Path.{◌∙◌}
use native.Mathlib.Omega.{arith}
use Rattle.records.specs.Written.{paste_all}
use Rattle.decoding.proofs.tokens.put_narrow.Goals as goal

pub returns : goal.returns
returns c =
    c.loop-i.invariant ∙ paste_all c.args.numbers.now 0 c.args.tokens.now c.loop-i.i (omega (arith, c.requires)) (omega arith)

-- `refusals::refusals::foreign` meets its contract. The loop's invariant: what was seen and what is left together have a foreign byte just where the line has.
-- Assumes nothing.
use mathlib.Core.Path.{sym, ◌∙◌, ap}
use mathlib.Core.Bool.{not}
use Prim.Native.Nat.{◌+◌}
use native.Mathlib.Omega.{arith}
use lib.ListN.{drop}
use Rattle.names.specs.Choice.{either}
use Rattle.operand.specs.Entry.{foreign}
use Rattle.names.specs.Laws.{either_assoc, or_either}
use Rattle.refusals.proofs.refusals.Checks.{foreign_on, outside}
use Rattle.refusals.proofs.refusals.foreign.Goals as goal

pub loop-byte-preserved : goal.loop-byte-preserved
loop-byte-preserved c =
    ap (λ b. either b (foreign (drop (c.loop-byte.byte-index + 1) c.args.line.now))) (or_either c.loop-byte.found _ ∙ ap (either c.loop-byte.found) (ap not c.contains.ensures.value ∙ outside 32 126 _ _ _ _ c.new.ensures.start c.new.ensures.end c.new.ensures.exhausted)) ∙ either_assoc c.loop-byte.found _ _ ∙ ap (either c.loop-byte.found) (sym (foreign_on c.args.line.now c.loop-byte.byte-index (omega arith))) ∙ c.loop-byte.invariant

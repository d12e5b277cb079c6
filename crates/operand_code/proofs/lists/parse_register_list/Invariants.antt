-- `operand_code::lists::parse_register_list` meets its contract. The loop's invariant: the mask and the nodes are those of the items so far.
-- Assumes nothing.
use mathlib.Core.Path.{◌≡◌}
use Prim.Native.Nat.{◌-◌}
use Rattle.names.specs.Tokens.{count}
use Rattle.operand_code.proofs.lists.Turns.{Going}
use Rattle.operand_code.proofs.lists.parse_register_list.Given as goal

abbrev pub invariant-loop-item : goal.invariant-loop-item
invariant-loop-item l =
    Going l.source.line.now l.source.tokens.now l.initial.nodes l.initial.out.diagnostics.now l.nodes l.out.diagnostics.now l.initial.out.counters l.source.setting l.initial.r l.mask l.out.counters l.r
    × (l.out.diagnostics.ghost_name ≡ l.initial.out.diagnostics.ghost_name)

abbrev pub decreases-loop-item : goal.decreases-loop-item
decreases-loop-item l = count l.source.tokens.now - l.out.counters.at

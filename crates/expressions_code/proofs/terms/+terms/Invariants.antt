-- The proof of the cycle of calls {parse_expression, parse_expression_from, parse_group, parse_operated, parse_plus, parse_prefix, parse_unary}.
-- The measure is four times the tokens left, and up to 3 more for one that calls another at the same place.
-- The loop's invariant: what the rest of the climb tells, the whole tells (`Climbing`).
-- Assumes nothing.
use mathlib.Core.Path.{◌≡◌}
use Prim.Native.Nat.{◌+◌, ◌-◌, ◌*◌}
use Rattle.names.specs.Tokens.{count}
use Rattle.expressions_code.proofs.terms.Turns.{Climbing}
use Rattle.expressions_code.proofs.terms.+terms.Given as goal

abbrev pub decreases-parse_expression : goal.decreases-parse_expression
decreases-parse_expression l = 4 * (count l.source.now.tokens.now - l.out.now.counters.at) + 2

abbrev pub decreases-parse_expression_from : goal.decreases-parse_expression_from
decreases-parse_expression_from l = 4 * (count l.source.now.tokens.now - l.out.now.counters.at) + 1

abbrev pub decreases-parse_group : goal.decreases-parse_group
decreases-parse_group l = 4 * (count l.source.now.tokens.now - l.out.now.counters.at) + 3

abbrev pub decreases-parse_operated : goal.decreases-parse_operated
decreases-parse_operated l = 4 * (count l.source.now.tokens.now - l.out.now.counters.at)

abbrev pub decreases-parse_plus : goal.decreases-parse_plus
decreases-parse_plus l = 4 * (count l.source.now.tokens.now - l.out.now.counters.at) + 3

abbrev pub decreases-parse_prefix : goal.decreases-parse_prefix
decreases-parse_prefix l = 4 * (count l.source.now.tokens.now - l.out.now.counters.at)

abbrev pub decreases-parse_unary : goal.decreases-parse_unary
decreases-parse_unary l = 4 * (count l.source.now.tokens.now - l.out.now.counters.at) + 3

abbrev pub invariant-parse_expression_from-loop-t : goal.invariant-parse_expression_from-loop-t
invariant-parse_expression_from-loop-t l =
    Climbing l.source.line.now l.source.tokens.now l.initial.nodes l.initial.out.diagnostics.now l.nodes l.out.diagnostics.now l.initial.out.counters l.initial.span l.minimum l.room l.out.counters l.span
    × (l.out.diagnostics.ghost_name ≡ l.initial.out.diagnostics.ghost_name)

abbrev pub decreases-parse_expression_from-loop-t : goal.decreases-parse_expression_from-loop-t
decreases-parse_expression_from-loop-t l = count l.source.tokens.now - l.out.counters.at

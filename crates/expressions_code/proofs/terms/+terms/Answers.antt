-- The proof of the cycle of calls {parse_expression, parse_expression_from, parse_group, parse_operated, parse_plus, parse_prefix, parse_unary}.
-- The measure is four times the tokens left, and up to 3 more for one that calls another at the same place.
-- The loop's invariant: what the rest of the climb tells, the whole tells (`Climbing`).
-- Assumes nothing.
use native.Mathlib.Omega.{arith}
use mathlib.Core.Path.{refl, sym, ◌∙◌}
use Rattle.expressions.specs.Paths.{told_one}
use Rattle.names.specs.Places.{live}
use Rattle.expressions_code.proofs.terms.Returns.{err_given, some_of, none_of, absent_quiet, read_on, read_some, read_on_some, a_unary, no_unary, prefix_full, prefix_end, prefix_unary, prefix_plus, prefix_group, prefix_leaf, unary_reads, unary_fails, plus_tells, expression_reads, expression_fails}
use Rattle.expressions_code.proofs.terms.Closings.{group_fails, group_tells}
use Rattle.expressions_code.proofs.terms.Climbs.{climb_ends, climb_lows, operated_fails, operated_reads}
use Rattle.expressions_code.proofs.terms.Turns.{again, ends}
use Rattle.expressions.specs.Expressions.{is_unary}
use Rattle.expressions_code.specs.Terms.{node_told}
use Rattle.expressions_code.proofs.terms.+terms.Goals as goal

pub parse_expression-returns-in_err-term-clause-told : goal.parse_expression-returns-in_err-term-clause-told
parse_expression-returns-in_err-term-clause-told t c =
    rw (err_given _ _ c.from_residual.ensures.1) (expression_fails _ c.requires c.parse_prefix.ensures.told _ c.in_err-term.was)

pub parse_expression-returns-clause-told : goal.parse_expression-returns-clause-told
parse_expression-returns-clause-told t c =
    expression_reads _ c.requires c.parse_prefix.ensures.told c.in_ok-term.was c.parse_expression_from.ensures.told

pub parse_expression_from-loop-t-preserved : goal.parse_expression_from-loop-t-preserved
parse_expression_from-loop-t-preserved t c =
    (again c.loop-t.invariant.0 (omega (arith, c.precedence.ensures, c.if-precedence-minimum.false)) c.parse_operated.ensures.told c.in-Ok.is (omega (arith, c.parse_operated.auto)), c.parse_operated.ensures.lent ∙ c.loop-t.invariant.1)

pub parse_expression_from-returns-in_default-clause-told : goal.parse_expression_from-returns-in_default-clause-told
parse_expression_from-returns-in_default-clause-told t c =
    c.loop-t.invariant.0.whole _ _ _ _ (climb_ends c.loop-t.invariant.0.free (sym c.peek.ensures ∙ c.in_default.is))

pub parse_expression_from-returns-then-precedence-minimum-clause-told : goal.parse_expression_from-returns-then-precedence-minimum-clause-told
parse_expression_from-returns-then-precedence-minimum-clause-told t c =
    c.loop-t.invariant.0.whole _ _ _ _ (climb_lows c.loop-t.invariant.0.free (sym c.peek.ensures ∙ c.in-Some.is) (omega (arith, c.precedence.ensures, c.if-precedence-minimum.true)))

pub parse_expression_from-returns-in_default-parse_operated-clause-told : goal.parse_expression_from-returns-in_default-parse_operated-clause-told
parse_expression_from-returns-in_default-parse_operated-clause-told t c =
    ends c.loop-t.invariant.0 (omega (arith, c.precedence.ensures, c.if-precedence-minimum.false)) c.parse_operated.ensures.told λ x p. c.in_default-parse_operated.not-Ok x p

pub parse_group-returns-in_err-expected-clause-told : goal.parse_group-returns-in_err-expected-clause-told
parse_group-returns-in_err-expected-clause-told t c =
    rw (err_given _ _ c.from_residual.ensures.1) (group_fails _ _ c.requires c.parse_expression-read.ensures.told _ c.expected.ensures.told c.in_err-expected.was)

pub parse_group-returns-clause-told : goal.parse_group-returns-clause-told
parse_group-returns-clause-told t c =
    group_tells _ _ c.requires (read_on c.parse_expression-read.ensures.told c.expected.ensures.told c.in_ok-expected.was) (omega (arith, c.parse_expression-read.auto)) refl c.close_group.ensures.told

pub parse_operated-returns-in_err-term-clause-told : goal.parse_operated-returns-in_err-term-clause-told
parse_operated-returns-in_err-term-clause-told t c =
    rw (err_given _ _ c.from_residual.ensures.1) (operated_fails c.requires.0 c.requires.1 c.step_over.ensures c.parse_prefix-read.ensures.told _ c.expected.ensures.told c.in_err-term.was)

pub parse_operated-returns-clause-told : goal.parse_operated-returns-clause-told
parse_operated-returns-clause-told t c =
    operated_reads c.requires.0 c.requires.1 c.step_over.ensures (read_on c.parse_prefix-read.ensures.told c.expected.ensures.told c.in_ok-term.was) refl c.precedence-above.ensures c.binary_operator.ensures c.parse_expression_from-right.ensures.told (node_told _ (rw c.from.ensures refl) (omega (arith, c.requires.0, live _ _ _ c.requires.1, c.step_over.ensures, c.parse_prefix-read.auto, c.parse_expression_from-right.auto, c.parse_expression_from-right.ensures.told, read_on c.parse_prefix-read.ensures.told c.expected.ensures.told c.in_ok-term.was)) c.put_counted.ensures.put c.put_counted.ensures.counted)

pub parse_plus-returns-clause-told : goal.parse_plus-returns-clause-told
parse_plus-returns-clause-told t c =
    plus_tells _ c.requires c.parse_prefix-read.ensures.told _ _ refl c.unwrap_or_default.ensures c.or.ensures c.from.ensures c.plain.ensures (told_one (omega (arith, c.requires, c.parse_prefix-read.ensures.told)) c.raise.ensures.told c.raise.ensures.counted)

pub parse_prefix-returns-then-room-eq0-clause-told : goal.parse_prefix-returns-then-room-eq0-clause-told
parse_prefix-returns-then-room-eq0-clause-told t c =
    prefix_full _ c.requires c.if-room-eq0.true c.too_deep.ensures.told

pub parse_prefix-returns-in_err-t-clause-told : goal.parse_prefix-returns-in_err-t-clause-told
parse_prefix-returns-in_err-t-clause-told t c =
    let n = none_of _ _ _ (sym c.ok_or.ensures.value ∙ c.in_err-t.was) in
    rw (err_given _ _ c.from_residual.ensures.1, n.1) (prefix_end _ c.requires c.if-room-eq0.false (sym c.peek.ensures ∙ n.0))

pub parse_prefix-returns-in-15-clause-told : goal.parse_prefix-returns-in-15-clause-told
parse_prefix-returns-in-15-clause-told t c =
    prefix_unary _ c.requires c.if-room-eq0.false (sym c.peek.ensures ∙ some_of _ _ _ (sym c.ok_or.ensures.value ∙ c.in_ok-t.was)) c.step_over.ensures (a_unary _ _ c.in-15.is) c.parse_unary.ensures.told

pub parse_prefix-returns-in-14-clause-told : goal.parse_prefix-returns-in-14-clause-told
unfolding is_unary
parse_prefix-returns-in-14-clause-told t c =
    prefix_plus _ c.requires c.if-room-eq0.false (sym c.peek.ensures ∙ some_of _ _ _ (sym c.ok_or.ensures.value ∙ c.in_ok-t.was)) c.step_over-in-14.ensures (rw c.in-14.is refl) c.in-14.is c.parse_plus.ensures.told

pub parse_prefix-returns-in-7-clause-told : goal.parse_prefix-returns-in-7-clause-told
unfolding is_unary
parse_prefix-returns-in-7-clause-told t c =
    prefix_group _ c.requires c.if-room-eq0.false (sym c.peek.ensures ∙ some_of _ _ _ (sym c.ok_or.ensures.value ∙ c.in_ok-t.was)) c.step_over-in-7.ensures (rw c.in-7.is refl) c.in-7.is c.parse_group.ensures.told

pub parse_prefix-returns-in_default-clause-told : goal.parse_prefix-returns-in_default-clause-told
parse_prefix-returns-in_default-clause-told t c =
    prefix_leaf _ c.requires c.if-room-eq0.false (sym c.peek.ensures ∙ some_of _ _ _ (sym c.ok_or.ensures.value ∙ c.in_ok-t.was)) (no_unary _ _ (search)) (search) (search) c.parse_leaf.ensures.told

pub parse_unary-returns-in_err-term-clause-told : goal.parse_unary-returns-in_err-term-clause-told
parse_unary-returns-in_err-term-clause-told t c =
    rw (err_given _ _ c.from_residual.ensures.1) (unary_fails _ c.requires c.parse_prefix-read.ensures.told _ _ c.expected.ensures.told c.in_err-term.was)

pub parse_unary-returns-clause-told : goal.parse_unary-returns-clause-told
parse_unary-returns-clause-told t c =
    unary_reads _ c.requires (read_on c.parse_prefix-read.ensures.told c.expected.ensures.told c.in_ok-term.was) _ refl c.unary_operator.ensures (node_told _ (rw c.from.ensures refl) (omega (arith, c.requires, c.parse_prefix-read.auto, read_on c.parse_prefix-read.ensures.told c.expected.ensures.told c.in_ok-term.was)) c.put_counted.ensures.put c.put_counted.ensures.counted)

pub parse_operated-expected-requires : goal.parse_operated-expected-requires
parse_operated-expected-requires t c =
    λ w. omega (arith, c.step_over.ensures, live _ _ _ c.requires.1, c.requires.0, absent_quiet _ c.parse_prefix-read.ensures.told w)

pub parse_expression-parse_expression_from-requires : goal.parse_expression-parse_expression_from-requires
parse_expression-parse_expression_from-requires t c =
    omega (arith, c.requires, c.parse_prefix.ensures.told, read_some c.parse_prefix.ensures.told c.in_ok-term.was)

pub parse_group-close_group-requires : goal.parse_group-close_group-requires
parse_group-close_group-requires t c =
    let g = read_on c.parse_expression-read.ensures.told c.expected.ensures.told c.in_ok-expected.was in omega (arith, c.requires, g, read_some g refl)

pub parse_unary-overflow_sub-unary : goal.parse_unary-overflow_sub-unary
parse_unary-overflow_sub-unary t c =
    read_on_some c.parse_prefix-read.ensures.told c.expected.ensures.told c.in_ok-term.was

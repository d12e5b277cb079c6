-- `names::numbers::parse_digits` meets its contract. The loop's invariant: the value stays at 2^63, and the rest of the digits, read on from the value, give what all of them give.
-- Assumes nothing.
use Rattle.std.proofs.Common.{sym, ◌∙◌, ap, true-eqb, false-eqb, arith}
use Rattle.std.proofs.lemmas.Result.{err_from_is_err_and}
use Rattle.names.specs.Numbers.{scan}
use Rattle.names.proofs.numbers.Figures.{radix_most, cap_saturated, scan_on, scan_stop, scan_value, scan_large, digits_none, digits_some, read_digit, no_digit}
use Rattle.names.proofs.numbers.parse_digits.Goals as goal

pub returns-then-is_empty : goal.returns-then-is_empty
returns-then-is_empty c =
    sym (digits_none _ _ (true-eqb _ _ c.if-is_empty.ensures))

pub to_digit-requires-clause-lower_bound : goal.to_digit-requires-clause-lower_bound
to_digit-requires-clause-lower_bound c =
    omega (arith, c.radix-radix.ensures, radix_most c.args.base)

pub to_digit-requires-clause-upper_bound : goal.to_digit-requires-clause-upper_bound
to_digit-requires-clause-upper_bound c =
    omega (arith, c.radix-radix.ensures, radix_most c.args.base)

pub returns-in_err-digit : goal.returns-in_err-digit
returns-in_err-digit c =
    let p = err_from_is_err_and c.from_residual.result c.from_residual.ensures.1 in
    let n = no_digit _ c.radix-radix.result _ _ c.from.ensures c.to_digit.ensures.value (sym c.ok_or.ensures.value ∙ c.in_err-digit.was) in
    p.1 ∙ rw (p.2, n.1) (sym (scan_stop c.radix-radix.result c.loop-byte.value c.args.digits.now c.loop-byte.byte-index c.loop-byte-test.true n.0) ∙ c.loop-byte.invariant.1 ∙ ap (λ r. scan r 0 c.args.digits.now) c.radix-radix.ensures ∙ sym (digits_some _ _ (false-eqb _ _ c.if-is_empty.ensures)))

pub loop-byte-preserved : goal.loop-byte-preserved
loop-byte-preserved c =
    let d = read_digit _ c.radix-radix.result _ _ c.from.ensures c.to_digit.ensures.value (sym c.ok_or.ensures.value ∙ c.in_ok-digit.was) in (
      omega (arith, c.min-value.ensures),
      sym (scan_on c.radix-radix.result c.loop-byte.value c.args.digits.now c.loop-byte.byte-index c.loop-byte-test.true c.min-value.result d.0 (rw (c.min-value.ensures, c.saturating_add.ensures, c.saturating_mul.ensures, c.from-in-loop-byte.ensures, c.from-in-loop-byte-2.ensures, d.1) (cap_saturated _ _))) ∙ c.loop-byte.invariant.1,
    )

pub returns-then-value-lt-LIMIT : goal.returns-then-value-lt-LIMIT
returns-then-value-lt-LIMIT c =
    sym (scan_value c.radix-radix.result c.loop-byte.value c.args.digits.now c.loop-byte.byte-index c.loop-byte-test.false c.if-value-lt-LIMIT.true) ∙ c.loop-byte.invariant.1 ∙ ap (λ r. scan r 0 c.args.digits.now) c.radix-radix.ensures ∙ sym (digits_some _ _ (false-eqb _ _ c.if-is_empty.ensures))

pub returns-else-value-lt-LIMIT : goal.returns-else-value-lt-LIMIT
returns-else-value-lt-LIMIT c =
    sym (scan_large c.radix-radix.result c.loop-byte.value c.args.digits.now c.loop-byte.byte-index c.loop-byte-test.false c.if-value-lt-LIMIT.false) ∙ c.loop-byte.invariant.1 ∙ ap (λ r. scan r 0 c.args.digits.now) c.radix-radix.ensures ∙ sym (digits_some _ _ (false-eqb _ _ c.if-is_empty.ensures))

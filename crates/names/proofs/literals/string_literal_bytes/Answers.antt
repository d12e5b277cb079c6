-- `names::literals::string_literal_bytes` meets its contract. The loop's invariant: the bytes stored and those to come are all that the literal has.
-- Assumes nothing.
use Rattle.std.proofs.Common.{◌≡◌, refl, ap, [], length, arith, get_or}
use mathlib.Core.Logic.{inl}
use Rattle.names.specs.Literals.{literal_bytes}
use Rattle.names.proofs.tokens.Lists.{rest, length_rest}
use Rattle.names.proofs.literals.Quotes.{literal_none, literal_some, quoted_short, counted, stored_not, storing_first, storing_next, storing_last}
use Rattle.names.proofs.literals.string_literal_bytes.Goals as goal

pub returns-in_default : goal.returns-in_default
returns-in_default c =
    rw (literal_none c.args.text.now c.in_default.len_below) (storing_last (storing_first [] c.args.out.now (omega arith)) refl)

pub count-n-requires-clause-fits : goal.count-n-requires-clause-fits
count-n-requires-clause-fits c =
    inl (omega (arith, quoted_short (get_or c.args.text.now 0 0) (rest c.args.text.now), length_rest c.args.text.now c.in-len1-up.len_at_least))

pub returns-then-out-n : goal.returns-then-out-n
returns-then-out-n c =
    stored_not _ _ (omega (arith, c.if-out-n.true, ap length (literal_some c.args.text.now c.in-len1-up.len_at_least), counted _ _ c.count-n.ensures.ran))

pub loop-i-init : goal.loop-i-init
loop-i-init c =
    rw (c.into_iter-i-iterator.ensures.into_iter_gives, c.enumerate-i-items.ensures.count, c.enumerate-i-items.ensures.source, ← literal_some c.args.text.now c.in-len1-up.len_at_least)
    (storing_first (literal_bytes c.args.text.now) c.args.out.now (omega (arith, c.if-out-n.false, ap length (literal_some c.args.text.now c.in-len1-up.len_at_least), counted _ _ c.count-n.ensures.ran)))

pub loop-i-preserved : goal.loop-i-preserved
loop-i-preserved c =
    rw (c.in-Some.ensures.steps.1, c.in-Some.ensures.steps.2) (storing_next c.loop-i.invariant _ _ c.in-Some.ensures.steps.0)

pub returns : goal.returns
returns c =
    let e = c.in-None.ensures.steps.0.0 in
    let n : c.count-n.result ≡ c.loop-i.i-iterator.count = omega (arith, c.loop-i.invariant.all, ap length e, ap length (literal_some c.args.text.now c.in-len1-up.len_at_least), counted _ _ c.count-n.ensures.ran) in
    rw n (storing_last c.loop-i.invariant e)

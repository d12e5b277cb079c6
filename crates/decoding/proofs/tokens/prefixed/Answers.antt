-- `decoding::tokens::prefixed` meets its contract: each base at its byte.
-- Assumes nothing.
use mathlib.Core.Path.{◌∙◌}
use native.Mathlib.Omega.{arith}
use borrow.Author.Tests.{ne_eqb}
use Rattle.decoding.proofs.tokens.Checks.{prefixed_none, prefixed_by}
use Rattle.decoding.proofs.tokens.prefixed.Goals as goal

pub returns-in-0 : goal.returns-in-0
returns-in-0 c =
    prefixed_none _ _ c.in-0.is

pub returns-in-1 : goal.returns-in-1
returns-in-1 c =
    c.starts_with.ensures.value ∙ rw c.in-1.is (prefixed_by 1 _ (λ e. absurd (omega arith)))

pub returns-in-2 : goal.returns-in-2
returns-in-2 c =
    c.starts_with-in-2.ensures.value ∙ rw c.in-2.is (prefixed_by 2 _ (λ e. absurd (omega arith)))

pub returns-in_default : goal.returns-in_default
returns-in_default c =
    c.starts_with-in_default.ensures.value
    ∙ rw (ne_eqb c.args.base 1 c.in_default.in_default-own.rest.0.1, ne_eqb c.args.base 2 c.in_default.in_default-own.rest.1) at (prefixed_by c.args.base c.args.text.now c.in_default.in_default-own.rest.0.0.1)

-- `expressions_code::terms::close_group` meets its contract.
-- Assumes nothing.
use mathlib.Core.Path.{refl, sym, ◌∙◌}
use native.Mathlib.Omega.{arith}
use Rattle.expressions_code.specs.Terms.{closed, unclosed}
use borrow.Author.Tests.{eqb-true}
use Rattle.names.specs.Kinds
use Rattle.expressions.specs.Paths.{kind_token, no_kind, next_stepped}
use Rattle.expressions_code.proofs.terms.close_group.Goals as goal

pub returns-in_default-clause-told : goal.returns-in_default-clause-told
returns-in_default-clause-told c =
    let h = c.next_of_kind.ensures in
    unclosed (λ L. no_kind Kinds.right_paren L _ _ (sym h.token ∙ c.in_default.is)) refl (rw (← h.stays c.in_default.is) c.unclosed.ensures.told)

pub returns-clause-told : goal.returns-clause-told
returns-clause-told c =
    let h = c.next_of_kind.ensures in
    let t = kind_token Kinds.right_paren _ (sym h.token ∙ c.in-Some.is) in
    closed _ t.0 (eqb-true _ _ t.1) (rw (← h.nodes) c.widen.ensures) refl refl (next_stepped h c.in-Some.is (omega (arith, c.requires)))

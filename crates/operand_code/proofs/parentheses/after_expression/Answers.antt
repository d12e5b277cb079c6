-- `operand_code::parentheses::after_expression` meets its contract.
-- Assumes nothing.
use mathlib.Core.Path.{sym, ◌∙◌, ap}
use native.Mathlib.Omega.{arith}
use borrow.Author.Tests.{eqb-true}
use Rattle.std.specs.Prelude.{Some}
use Rattle.names.specs.Kinds
use Rattle.operand.specs.Operands.{displaced}
use Rattle.operand.specs.Operand.{after_expression, grouped_operand}
use Rattle.expressions.specs.Paths.{renamed, next_stepped, kind_token, seen_kind, unseen_kind}
use Rattle.operand_code.proofs.Next.{hit_some, miss_some}
use Rattle.operand_code.proofs.Holdings.{tree_stored, stands_size, stands_from}
use Rattle.operand_code.proofs.bases.Tails.{kept_from}
use Rattle.operand_code.proofs.operands.Behind.{base_behind}
use Rattle.operand_code.proofs.parentheses.after_expression.Goals as goal

pub returns-then-is_some-clause-told : goal.returns-then-is_some-clause-told
unfolding after_expression
returns-then-is_some-clause-told c =
    let h = c.next_of_kind.ensures in
    record { told = λ e s v. hit_some h (sym c.is_some.ensures ∙ c.if-is_some.true) (omega (arith, c.requires)) λ k w. tree_stored _ s (base_behind e (stands_size s) (ap Some c.last_tree.ensures) h.nodes c.after_comma.ensures.told) }

pub returns-then-is_some-2-clause-told : goal.returns-then-is_some-2-clause-told
unfolding after_expression
returns-then-is_some-2-clause-told c =
    let h = c.next_of_kind.ensures in
    let i = c.next_of_kind-2.ensures in
    record {
      told = λ e s v. miss_some h (sym c.is_some.ensures ∙ c.if-is_some.false)
          (hit_some i (sym c.is_some-2.ensures ∙ c.if-is_some-2.true) (omega (arith, c.requires, h)) λ k w.
          (renamed (ap (λ l. grouped_operand c.args.source.now.setting c.args.paren l e) (ap (λ z. z.end) (next_stepped i w (omega (arith, c.requires, h))))) (c.grouped_operand.ensures.told.told e (stands_from (sym (i.nodes ∙ h.nodes)) s) tt)));
    }

pub sized_base-requires : goal.sized_base-requires
sized_base-requires c =
    let t = kind_token Kinds.size_suffix _ (sym c.token_of_kind.ensures ∙ c.in-Some.is) in
    (omega (arith, c.requires, c.next_of_kind.ensures, c.next_of_kind-2.ensures), record { stands = rw c.from-at.ensures at t.0; kind = eqb-true _ _ t.1 })

pub returns-in-Some-clause-told : goal.returns-in-Some-clause-told
unfolding after_expression
returns-in-Some-clause-told c =
    let h = c.next_of_kind.ensures in
    let i = c.next_of_kind-2.ensures in
    record {
      told = λ e s v. miss_some h (sym c.is_some.ensures ∙ c.if-is_some.false) (miss_some i (sym c.is_some-2.ensures ∙ c.if-is_some-2.false)
          (seen_kind Kinds.size_suffix (omega (arith, c.from-at.ensures)) (sym c.token_of_kind.ensures ∙ c.in-Some.is) (tree_stored _ s (kept_from (displaced e 0) (i.nodes ∙ h.nodes) (c.sized_base.ensures.told.told e (i.nodes ∙ h.nodes ∙ stands_size s) v)))));
    }

pub returns-in-None-clause-told : goal.returns-in-None-clause-told
unfolding after_expression
returns-in-None-clause-told c =
    let h = c.next_of_kind.ensures in
    let i = c.next_of_kind-2.ensures in
    record {
      told = λ e s v. miss_some h (sym c.is_some.ensures ∙ c.if-is_some.false) (miss_some i (sym c.is_some-2.ensures ∙ c.if-is_some-2.false)
          (unseen_kind Kinds.size_suffix (omega (arith, c.from-at.ensures)) (sym c.token_of_kind.ensures ∙ c.in-None.is) (tree_stored _ s (kept_from (displaced e 0) (i.nodes ∙ h.nodes) (c.unexpected.ensures.told.told _ (displaced e 0))))));
    }

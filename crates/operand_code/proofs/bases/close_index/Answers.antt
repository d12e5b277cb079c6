-- `operand_code::bases::close_index` meets its contract.
-- Assumes nothing.
use mathlib.Core.Path.{sym, ◌∙◌, ap}
use Rattle.operand.specs.FormNumbers
use Rattle.operand.specs.Operand.{expect_close, or_none}
use Rattle.operand_code.specs.Operands.{HeldBy}
use Rattle.expressions.specs.Paths.{renamed, bound}
use Rattle.operand_code.proofs.bases.Tails.{indexed_full, indexed_plain}
use Rattle.operand_code.proofs.malformed.Failures.{stopped}
use Rattle.operand_code.proofs.bases.close_index.Goals as goal
use Rattle.operand_code.proofs.bases.close_index.Goals.{then-x, else-x}

pub returns-in_err-end-clause-told : goal.returns-in_err-end-clause-told
unfolding or_none HeldBy
returns-in_err-end-clause-told c =
    let t = renamed (ap (expect_close _ _) c.index_shape.ensures) c.expect_close.ensures.told in
    record { told = λ y e plain g. stopped _ t c.in_err-end.was c.from_residual.ensures (t.held, tt) }

pub returns-clause-told : goal.returns-clause-told
unfolding or_none HeldBy
returns-clause-told c =
    let t = renamed (ap (expect_close _ _) c.index_shape.ensures) c.expect_close.ensures.told in
    let base = c.from-base.ensures in
    record {
      told = λ y e plain g. bound t (sym t.what ∙ c.in_ok-end.was) (elim c.if-x.branch [
        | then-x w ↦ indexed_full y e t.held c.span_to-span.ensures (rw base at c.indexed.ensures) plain w.if-x.true (ap FormNumbers.number w.form-is)
        | else-x w ↦ indexed_plain y e t.held c.span_to-span.ensures (rw base at c.indexed.ensures) plain w.if-x.false (ap FormNumbers.number w.form-is ∙ w.index_form-form.ensures) g
      ]);
    }

-- `operand_code::operands::parse_predecrement` meets its contract: a register has been seen, so that one stands there.
-- Assumes nothing.
use mathlib.Core.Path.{refl, sym, ◌∙◌}
use borrow.Author.Tests.{le-leb, lt-leb}
use native.Mathlib.Omega.{arith}
use lib.Dec.{leb}
use Rattle.names.specs.Laws.{true_false}
use Rattle.records.specs.Shapes
use Rattle.operand.specs.Operand.{predecrement_close, or_none}
use Rattle.operand.specs.Operands.{undisplaced}
use Rattle.operand.specs.Records.{size_d, nodes_d, size_o, nodes_o}
use Rattle.operand.specs.Forms.{record_of}
use Rattle.expressions.specs.Paths.{bound, chosen, unchosen, raised_same}
use Rattle.operand_code.proofs.lookahead.Names.{no_register}
use Rattle.operand_code.proofs.malformed.Failures.{failed_register, stopped}
use Rattle.operand_code.proofs.bases.Tails.{operand_told}
use Rattle.operand_code.proofs.Holdings.{kept_none}
use Rattle.operand_code.proofs.operands.Returns.{looked_up}
use Rattle.operand_code.proofs.operands.parse_predecrement.Goals as goal

pub returns-in_default-clause-told : goal.returns-in_default-clause-told
returns-in_default-clause-told c =
    absurd (true_false (sym c.requires.1 ∙ no_register _ _ (sym c.register_at.ensures ∙ c.in_default.is)))

pub returns-then-r-lt8-clause-told : goal.returns-then-r-lt8-clause-told
unfolding predecrement_close
returns-then-r-lt8-clause-told c =
    looked_up c.args.source.now.setting c.args.minus c.args.paren c.args.token _ (sym c.register_at.ensures ∙ c.in-Some.is)
    (unchosen (leb 8 c.in-Some.r.index) _ (lt-leb 8 c.in-Some.r.index (omega arith))
    (failed_register _ Shapes.predecrement c.args.token c.not_an_address_register.ensures.told refl refl (kept_none undisplaced (raised_same c.not_an_address_register.ensures.told))))

pub returns-in_err-end-clause-told : goal.returns-in_err-end-clause-told
unfolding predecrement_close
returns-in_err-end-clause-told c =
    let t = c.expect_close.ensures.told in
    looked_up c.args.source.now.setting c.args.minus c.args.paren c.args.token _ (sym c.register_at.ensures ∙ c.in-Some.is)
    (chosen (leb 8 c.in-Some.r.index) _ (le-leb 8 c.in-Some.r.index (omega arith)) (stopped _ t c.in_err-end.was c.from_residual.ensures (kept_none undisplaced t.held)))

pub returns-clause-told : goal.returns-clause-told
unfolding predecrement_close or_none record_of size_d nodes_d size_o nodes_o
returns-clause-told c =
    let t = c.expect_close.ensures.told in
    looked_up c.args.source.now.setting c.args.minus c.args.paren c.args.token _ (sym c.register_at.ensures ∙ c.in-Some.is)
    (chosen (leb 8 c.in-Some.r.index) _ (le-leb 8 c.in-Some.r.index (omega arith)) (bound t (sym t.what ∙ c.in_ok-end.was) (operand_told _ undisplaced (refl, refl) c.plain_operand.ensures t.held refl refl)))

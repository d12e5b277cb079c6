-- `operand_code::operands::predecrement_at` meets its contract.
-- Assumes nothing.
use mathlib.Core.Path.{sym, ◌∙◌, ap}
use Rattle.std.specs.Prelude.{option_map}
use Rattle.operand_code.specs.Lookahead.{paren_not, token_not, with_register}
use Rattle.operand_code.proofs.operands.Returns.{register_if}
use Rattle.operand_code.proofs.operands.predecrement_at.Goals as goal

pub returns-in_err-paren : goal.returns-in_err-paren
returns-in_err-paren c =
    paren_not (rw c.from-i.ensures at (sym c.token_of_kind.ensures ∙ c.in_err-paren.was)) (ap (option_map (with_register c.args.source.now.line.now)) c.from_residual.ensures)

pub returns-in_err-t : goal.returns-in_err-t
returns-in_err-t c =
    token_not (rw c.from-i.ensures at (sym c.token_of_kind.ensures ∙ c.in_ok-paren.was)) (rw c.from-i.ensures at (sym c.token_at.ensures ∙ c.in_err-t.was)) (ap (option_map (with_register c.args.source.now.line.now)) c.from_residual-in_err-t.ensures)

pub returns : goal.returns
returns c =
    register_if (rw c.from-i.ensures at (sym c.token_of_kind.ensures ∙ c.in_ok-paren.was)) (rw c.from-i.ensures at (sym c.token_at.ensures ∙ c.in_ok-t.was)) c.is_register_at.ensures c.then_some.ensures

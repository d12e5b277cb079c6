-- `operand_code::full::parse_full_index` meets its contract.
-- Assumes nothing.
use mathlib.Core.Path.{sym, ◌∙◌}
use Rattle.operand.specs.Operand.{parse_full_index, or_none}
use Rattle.operand_code.specs.Operands.{HeldBy}
use Rattle.expressions.specs.Paths.{bound}
use Rattle.operand_code.proofs.Rooms.{registers_room}
use Rattle.operand_code.proofs.bases.Tails.{full_index_told}
use Rattle.operand_code.proofs.malformed.Failures.{stopped}
use Rattle.operand_code.proofs.full.parse_full_index.Goals as goal

pub returns-in_err-x-clause-told : goal.returns-in_err-x-clause-told
unfolding parse_full_index or_none HeldBy
returns-in_err-x-clause-told c =
    let t = c.parse_base_and_index_registers.ensures.told in
    record { told = λ y e. stopped _ t c.in_err-x.was c.from_residual.ensures (t.held, tt) }

pub expect_close-requires : goal.expect_close-requires
expect_close-requires c =
    registers_room _ _ c.requires c.parse_base_and_index_registers.ensures.told c.in_ok-x.was

pub returns-in_err-end-clause-told : goal.returns-in_err-end-clause-told
unfolding parse_full_index or_none HeldBy
returns-in_err-end-clause-told c =
    let t = c.parse_base_and_index_registers.ensures.told in
    let k = c.expect_close.ensures.told in
    record { told = λ y e. bound t (sym t.what ∙ c.in_ok-x.was) (stopped _ k c.in_err-end.was c.from_residual-in_err-end.ensures (k.held ∙ t.held, tt)) }

pub returns-clause-told : goal.returns-clause-told
unfolding parse_full_index or_none HeldBy
returns-clause-told c =
    let t = c.parse_base_and_index_registers.ensures.told in
    let k = c.expect_close.ensures.told in
    record { told = λ y e. bound t (sym t.what ∙ c.in_ok-x.was) (bound k (sym k.what ∙ c.in_ok-end.was) (full_index_told y _ e (k.held ∙ t.held) c.span_to-span.ensures c.indexed.ensures)) }

-- `operand_code::suffixes::take_size_suffix` meets its contract.
-- Assumes nothing.
use mathlib.Core.Path.{refl}
use native.Mathlib.Omega.{arith}
use Rattle.expressions.specs.Expressions.{take_size_suffix}
use Rattle.operand.specs.Forms.{suffix_read}
use Rattle.expressions.specs.Paths.{answered, same, hit_next, miss_next}
use Rattle.operand_code.proofs.suffixes.take_size_suffix.Goals as goal

pub returns-in_err-t-clause-told : goal.returns-in_err-t-clause-told
unfolding take_size_suffix suffix_read
returns-in_err-t-clause-told c =
    let h = c.next_of_kind.ensures in
    rw c.from_residual.ensures (miss_next h c.in_err-t.was (answered refl refl h.nodes))

pub returns-clause-told : goal.returns-clause-told
unfolding take_size_suffix
returns-clause-told c =
    let h = c.next_of_kind.ensures in
    hit_next h c.in_ok-t.was (omega (arith, c.requires)) (same h.nodes c.suffix_run.ensures.told)

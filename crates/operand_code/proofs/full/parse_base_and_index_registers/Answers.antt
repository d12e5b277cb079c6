-- `operand_code::full::parse_base_and_index_registers` meets its contract.
-- Assumes nothing.
use mathlib.Core.Path.{ap}
use Rattle.expressions.specs.Paths.{same}
use Rattle.operand_code.proofs.lookahead.Starts.{base_read, base_missing}
use Rattle.operand_code.proofs.Next.{found_by, missed_by}
use Rattle.operand_code.proofs.full.parse_base_and_index_registers.Goals as goal

pub after_base_register-requires : goal.after_base_register-requires
after_base_register-requires c =
    (found_by c.requires c.next_base.ensures c.in-Some.is).room

pub no_base-requires : goal.no_base-requires
no_base-requires c =
    rw (missed_by c.next_base.ensures c.in-None.is) c.requires

pub returns-in-Some-clause-told : goal.returns-in-Some-clause-told
returns-in-Some-clause-told c =
    let f = found_by c.requires c.next_base.ensures c.in-Some.is in
    base_read _ _ f.stands f.is f.over (same (ap (λ z. z.nodes) f.over) c.after_base_register.ensures.told)

pub returns-in-None-clause-told : goal.returns-in-None-clause-told
returns-in-None-clause-told c =
    base_missing _ _ c.next_base.ensures c.in-None.is c.no_base.ensures.told
